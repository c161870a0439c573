use Rattle.std.proofs.Common.{is_ok, refl, sym, ◌∙◌, arith}
use Rattle.ldm_host.specs.Acts.{Act}
use Rattle.ldm_host.proofs.Relations.{grows_itself}
use Rattle.ldm_host.specs.Images.{items_of}
use Rattle.ldm_memory.specs.Memory.{memory_seen, story_of, host_counts}
use Rattle.ldm_host.specs.Moves.{SameLeft, Settled}
use Rattle.ldm_memory.specs.Steps.{IsSync}
use Rattle.ldm_memory.specs.Story.{Counts, seen_of}
use Rattle.ldm_memory.proofs.DoneLaws.{adds_ticks, sync_syncs, sync_settled, sync_took, nothing_failed, outcome_is, plan_is, ends, rose, failed_count, kept_count, on_ok, on_err, is_failed}
use Rattle.ldm_memory.proofs.CallLaws.{CountsRise}
use Rattle.ldm_memory.proofs.HeldLaws.{kept_sync_part}
use Rattle.ldm_memory.proofs.in_memory.MemoryHostHost.sync.Goals as goal

pub invariant_of-self : goal.invariant_of-self
invariant_of-self c =
    let m = c.args.self.now in
    record { kept = kept_sync_part (items_of m.first.items) m.calls.items m.script.items m.held.items m.said.items m.heard m.handed.items m.kept c.next_outcome-outcome.result c.sync_part-found.result c.args.disk c.sync_part-found.new.calls.items c.sync_part-found.ensures }

pub returns : goal.returns
returns c =
    let m = c.args.self.now in
    let outcome = c.next_outcome-outcome.result in
    let ended = c.end_call.ensures in
    let ok = is_ok c.end_call.result in
    let plan = plan_is m c.next_outcome-outcome.new.number c.next_outcome-outcome.ensures.number in
    let is = outcome_is m c.next_outcome-outcome.new.number outcome c.next_outcome-outcome.ensures.outcome c.next_outcome-outcome.ensures.number in
    let disk = c.args.disk in
    let found = c.sync_part-found.result in
    let calls = c.sync_part-found.new.calls.items in
    let adds = c.sync_part-found.ensures in
    let new : Counts = record { disk_faults = c.end_call.new.faults; talk_faults = m.talk_faults; dry = c.end_call.new.dry; wrote = m.handed.items; failed = m.failed.items } in
    let rises : CountsRise (host_counts m) new = record { disk_faults = ended.rises; talk_faults = omega arith; failed = grows_itself m.failed.items } in
    let later = seen_of (record { first = items_of m.first.items; calls = calls; script = m.script.items }) new in
    let took = sync_took (story_of m) (host_counts m) new rises disk c.requires refl outcome found calls adds in
    record {
      settled = on_ok (Settled later disk) c.end_call.result (λ is_fine. sync_settled (story_of m) (host_counts m) new rises disk c.requires refl outcome found calls adds (sym ended.ok ∙ is_fine));
      syncs = sync_syncs (story_of m) (host_counts m) new rises disk c.requires refl outcome found calls adds;
      pending = on_err (SameLeft (memory_seen m) later) c.end_call.result (λ failed. (nothing_failed (Act.Sync disk) outcome found (memory_seen m) later (λ nothing. nothing) took (sym ended.ok ∙ failed)).left);
      ticks = adds_ticks (story_of m) (host_counts m) new rises found (IsSync outcome disk) calls adds;
      cause = λ failed. rose ok m.disk_faults c.end_call.new.faults ended.faults (is_failed c.end_call.result failed);
      account = refl;
      ending = ends (Act.Sync disk) m _ outcome found _ plan is ended.ok refl refl (failed_count ok m.disk_faults c.end_call.new.faults ended.faults) (kept_count ok m.talk_faults) ended.dry took;
    }
