use Rattle.std.proofs.Common.{◌≡◌, ◌++◌, is_ok, refl, sym, ◌∙◌, arith}
use Rattle.ldm_host.specs.Acts.{Act}
use Rattle.ldm_host.proofs.Relations.{grows_itself}
use Rattle.ldm_host.specs.Images.{items_of}
use Rattle.ldm_memory.specs.Memory.{memory_seen, story_of, host_counts}
use Rattle.ldm_memory.specs.Steps.{IsSay}
use Rattle.ldm_memory.specs.Story.{Counts, seen_of}
use Rattle.ldm_memory.proofs.DoneLaws.{adds_ticks, say_still, say_hears, say_said, say_front, say_took, outcome_is, plan_is, ends, rose, failed_count, kept_count, on_ok, is_failed}
use Rattle.ldm_memory.proofs.CallLaws.{CountsRise}
use Rattle.ldm_memory.proofs.HeldLaws.{kept_say_part}
use Rattle.ldm_memory.proofs.in_memory.MemoryHostHost.say.Goals as goal

pub invariant_of-self : goal.invariant_of-self
invariant_of-self c =
    let m = c.args.self.now in
    let step = c.say_part-found in
    record { kept = kept_say_part (items_of m.first.items) m.calls.items m.script.items m.held.items m.said.items m.heard m.handed.items m.kept c.next_outcome-outcome.result step.result c.args.bytes.now step.new.calls.items step.new.said.items step.ensures.calls step.ensures.said }

pub returns : goal.returns
returns c =
    let m = c.args.self.now in
    let outcome = c.next_outcome-outcome.result in
    let ended = c.end_call.ensures in
    let ok = is_ok c.end_call.result in
    let plan = plan_is m c.next_outcome-outcome.new.number c.next_outcome-outcome.ensures.number in
    let is = outcome_is m c.next_outcome-outcome.new.number outcome c.next_outcome-outcome.ensures.outcome c.next_outcome-outcome.ensures.number in
    let bytes = c.args.bytes.now in
    let found = c.say_part-found.result in
    let calls = c.say_part-found.new.calls.items in
    let adds = c.say_part-found.ensures.calls in
    let new : Counts = record { disk_faults = m.disk_faults; talk_faults = c.end_call.new.faults; dry = c.end_call.new.dry; wrote = m.handed.items; failed = m.failed.items } in
    let rises : CountsRise (host_counts m) new = record { disk_faults = omega arith; talk_faults = ended.rises; failed = grows_itself m.failed.items } in
    let later = seen_of (record { first = items_of m.first.items; calls = calls; script = m.script.items }) new in
    let hears = say_hears (story_of m) (host_counts m) new rises bytes outcome found calls adds in
    record {
      said = λ tells. on_ok (later.said ≡ (memory_seen m).said ++ bytes) c.end_call.result (λ is_fine. say_said (story_of m) (host_counts m) new rises bytes outcome found calls adds (sym ended.ok ∙ is_fine));
      front = say_front (story_of m) (host_counts m) new rises bytes outcome found calls adds;
      heard = hears.0;
      input = hears.1;
      still = say_still (story_of m) (host_counts m) new rises bytes outcome found calls refl adds;
      ticks = adds_ticks (story_of m) (host_counts m) new rises found (IsSay outcome bytes) calls adds;
      cause = λ failed. rose ok m.talk_faults c.end_call.new.faults ended.faults (is_failed c.end_call.result failed);
      account = refl;
      ending = ends (Act.Say bytes) m _ outcome found _ plan is ended.ok refl refl (kept_count ok m.disk_faults) (failed_count ok m.talk_faults c.end_call.new.faults ended.faults) ended.dry (say_took (story_of m) (host_counts m) new rises bytes outcome found calls adds);
    }
