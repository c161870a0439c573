use Rattle.std.proofs.Common.{refl, ◌≡◌, ◌<◌, length, set, is_ok, sym, ◌∙◌, ap, arith}
use Rattle.std.proofs.lemmas.List.{length-set}
use Rattle.ldm_bytes.specs.Numbers.{IsBytes}
use Rattle.ldm_bytes.specs.Places.{put}
use Rattle.ldm_host.specs.Acts.{Act}
use Rattle.ldm_host.proofs.Relations.{grows_itself}
use Rattle.ldm_host.specs.Images.{items_of}
use Rattle.ldm_memory.specs.Laws.{held_now}
use Rattle.ldm_memory.specs.Memory.{memory_seen, story_of, host_counts}
use Rattle.ldm_host.specs.Seen.{image}
use Rattle.ldm_memory.specs.Steps.{IsWrite}
use Rattle.ldm_memory.specs.Story.{Counts, fresh_state, run, seen_of}
use Rattle.ldm_memory.proofs.DoneLaws.{adds_ticks, write_writes, write_placed, write_took, handed_here, handed_others, outcome_is, plan_is, ends, rose, failed_count, kept_count, on_ok, is_failed}
use Rattle.ldm_memory.proofs.CallLaws.{CountsRise}
use Rattle.ldm_memory.proofs.HeldLaws.{there, fits, fits_disk, kept_write_part}
use Rattle.ldm_memory.proofs.in_memory.MemoryHostHost.write_at.Goals as goal

pub hand-requires : goal.hand-requires
hand-requires c =
    let m = c.args.self.now in
    omega (arith, there m.held.items (run (fresh_state (items_of m.first.items)) m.calls.items).disks m.kept.content c.args.disk c.requires.disk, m.kept.each)

pub write_part-found-requires-clause-range : goal.write_part-found-requires-clause-range
write_part-found-requires-clause-range c =
    let m = c.args.self.now in
    let disks = (run (fresh_state (items_of m.first.items)) m.calls.items).disks in
    fits m.held.items disks m.kept.content c.args.disk c.requires.disk c.args.at (length c.args.bytes.now) c.requires.range

pub invariant_of-self : goal.invariant_of-self
invariant_of-self c =
    let m = c.args.self.now in
    let step = c.write_part-found in
    let counts : length c.hand.new.handed.items ≡ length m.handed.items = ap length c.hand.ensures ∙ simp length-set in
    let inside = fits_disk (run (fresh_state (items_of m.first.items)) m.calls.items).disks c.args.disk c.args.at (length c.args.bytes.now) c.requires.range in
    let small : IsBytes c.args.bytes.now = λ k. omega (arith, c.type_inv.bytes k) in
    record { kept = kept_write_part (items_of m.first.items) m.calls.items m.script.items m.held.items m.said.items m.heard m.handed.items m.kept c.args.disk c.args.at c.args.bytes.now step.new.held.items c.hand.new.handed.items counts inside small c.next_outcome-outcome.result step.result step.new.calls.items step.ensures.calls step.ensures.held }

pub returns : goal.returns
returns c =
    let m = c.args.self.now in
    let outcome = c.next_outcome-outcome.result in
    let ended = c.end_call.ensures in
    let ok = is_ok c.end_call.result in
    let plan = plan_is m c.next_outcome-outcome.new.number c.next_outcome-outcome.ensures.number in
    let is = outcome_is m c.next_outcome-outcome.new.number outcome c.next_outcome-outcome.ensures.outcome c.next_outcome-outcome.ensures.number in
    let disk = c.args.disk in
    let at = c.args.at in
    let bytes = c.args.bytes.now in
    let found = c.write_part-found.result in
    let calls = c.write_part-found.new.calls.items in
    let adds = c.write_part-found.ensures.calls in
    let handed = c.hand.new.handed.items in
    let new : Counts = record { disk_faults = c.end_call.new.faults; talk_faults = m.talk_faults; dry = c.end_call.new.dry; wrote = handed; failed = m.failed.items } in
    let rises : CountsRise (host_counts m) new = record { disk_faults = ended.rises; talk_faults = omega arith; failed = grows_itself m.failed.items } in
    let disks = (run (fresh_state (items_of m.first.items)) m.calls.items).disks in
    let held : disk < length m.handed.items = omega (arith, there m.held.items disks m.kept.content disk c.requires.disk, m.kept.each) in
    let inside = fits_disk disks disk at (length bytes) c.requires.range in
    let here = handed_here m.handed.items handed disk (length bytes) held c.hand.ensures in
    let others = handed_others m.handed.items handed disk (length bytes) c.hand.ensures in
    let later = seen_of (record { first = items_of m.first.items; calls = calls; script = m.script.items }) new in
    let took = write_took (story_of m) (host_counts m) new rises disk at bytes c.requires.disk inside (held_now m disk).bytes here others outcome found calls adds in
    record {
      written = λ tells. on_ok (later.content ≡ set (memory_seen m).content disk (put (image (memory_seen m).content disk) at bytes)) c.end_call.result
          (λ is_fine. write_placed (story_of m) (host_counts m) new rises disk at bytes c.requires.disk inside (held_now m disk).bytes here others outcome found calls adds (sym ended.ok ∙ is_fine));
      writes = write_writes (story_of m) (host_counts m) new rises disk at bytes c.requires.disk inside (held_now m disk).bytes here others outcome found calls adds;
      wrote = c.hand.ensures;
      ticks = adds_ticks (story_of m) (host_counts m) new rises found (IsWrite outcome disk at bytes) calls adds;
      cause = λ failed. rose ok m.disk_faults c.end_call.new.faults ended.faults (is_failed c.end_call.result failed);
      account = refl;
      ending = ends (Act.Write disk at bytes) m _ outcome found _ plan is ended.ok refl refl (failed_count ok m.disk_faults c.end_call.new.faults ended.faults) (kept_count ok m.talk_faults) ended.dry took;
    }
