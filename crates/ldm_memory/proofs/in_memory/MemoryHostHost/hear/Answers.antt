use Rattle.std.proofs.Common.{◌≡◌, ◌≤◌, ◌++◌, ℕ, List, Bool, true, ◌||◌, ◌==◌, Ok, Err, length, take, ◌&&◌, not, if◌then◌else◌, Result, IfOk, is_ok, refl, sym, ◌∙◌, ap, subst, arith}
use Rattle.ldm_host.specs.declared.host.Failed.{Failed}
use Rattle.ldm_memory.specs.declared.call.Call.{Call}
use Rattle.ldm_memory.specs.declared.outcome.Outcome.{Outcome}
use Rattle.ldm_memory.specs.declared.outcome.Outcome.TheVariants.{Whole}
use Rattle.ldm_host.specs.Acts.{Act}
use Rattle.ldm_host.proofs.Relations.{grows_itself}
use Rattle.ldm_host.specs.Images.{items_of}
use Rattle.ldm_memory.specs.Memory.{memory_seen, story_of, host_counts}
use Rattle.ldm_host.specs.Moves.{Quiet}
use Rattle.ldm_memory.specs.Plan.{next}
use Rattle.ldm_host.specs.Seen.{Seen}
use Rattle.ldm_memory.specs.Steps.{AddsCall, IsHear, Moved, is_whole}
use Rattle.ldm_memory.specs.Story.{Counts, fresh_state, run, seen_of}
use Rattle.ldm_memory.proofs.DoneLaws.{adds_ticks, hear_still, hear_silent, hear_took, hear_ended, nothing_failed, ok_whole, outcome_is, plan_is, ends, rose, failed_count, kept_count, on_err, from_err, is_failed, and_ok, if_both}
use Rattle.ldm_memory.proofs.CallLaws.{CountsRise}
use Rattle.ldm_memory.proofs.HeldLaws.{kept_hear_part}
use Rattle.ldm_memory.proofs.in_memory.MemoryHostHost.hear.Goals as goal

pub invariant_of-self : goal.invariant_of-self
invariant_of-self c =
    let m = c.args.self.now in
    let step = c.hear_part-heard in
    record { kept = kept_hear_part (items_of m.first.items) m.calls.items m.script.items m.held.items m.said.items m.heard m.handed.items m.kept c.next_outcome-outcome.result (is_ok step.result) step.new.calls.items step.new.heard step.ensures.calls (from_err (step.new.heard ≡ m.heard) step.result step.ensures.stays) step.ensures.fits }

-- n bytes of the input were heard
abbrev Hears : Seen → Seen → ℕ → List ℕ → Type 0
Hears old new n buf = (old.input ≡ take n buf ++ new.input) × (new.heard.bytes ≡ old.heard.bytes ++ take n buf) × (n ≡ 0 → length old.input ≡ 0) × (new.heard.ended ≡ old.heard.ended || n == 0)

-- the bytes of the script lie by the state before and after
moved_by : (script buf : List ℕ) (before after heard then_heard n : ℕ) → heard ≡ before → then_heard ≡ after → Moved script heard then_heard n buf → Moved script before after n buf
moved_by script buf before after heard then_heard n was is moved = subst (λ (x : ℕ). Moved script x after n buf) was (subst (λ (y : ℕ). Moved script heard y n buf) is moved)

-- a step that took the whole of its bytes and found memory
whole_step : (is : Outcome → Call → Type 0) (outcome : Outcome) (found : Bool) (old new : List Call) → is_whole outcome && found ≡ true → AddsCall found (is outcome) old new → AddsCall true (is Whole) old new
whole_step is Whole true old new fine adds = adds
whole_step is outcome found old new fine adds = absurd (cc fine)

mapped : {T E : Type 0} (P Q : T → Type 0) (r : Result T E) → ((x : T) → P x → Q x) → IfOk r P → IfOk r Q
mapped P Q (Ok x) more is = more x is
mapped P Q (Err e) more is = tt

pub returns : goal.returns
returns c =
    let m = c.args.self.now in
    let outcome = c.next_outcome-outcome.result in
    let ended = c.end_call.ensures in
    let plan = plan_is m c.next_outcome-outcome.new.number c.next_outcome-outcome.ensures.number in
    let is = outcome_is m c.next_outcome-outcome.new.number outcome c.next_outcome-outcome.ensures.outcome c.next_outcome-outcome.ensures.number in
    let step = c.hear_part-heard in
    let heard = step.result in
    let buf = step.new.buf in
    let found = is_ok heard in
    let calls = step.new.calls.items in
    let adds = step.ensures.calls in
    let new : Counts = record { disk_faults = m.disk_faults; talk_faults = c.end_call.new.faults; dry = c.end_call.new.dry; wrote = m.handed.items; failed = m.failed.items } in
    let rises : CountsRise (host_counts m) new = record { disk_faults = omega arith; talk_faults = ended.rises; failed = grows_itself m.failed.items } in
    let later = seen_of (record { first = items_of m.first.items; calls = calls; script = m.script.items }) new in
    let took = hear_took (story_of m) (host_counts m) new rises m.heard step.new.heard outcome found calls adds in
    let ended_ok : is_ok c.end_call.result ≡ is_whole outcome && found = ended.ok ∙ ap (λ (b : Bool). is_whole outcome && b) c.is_ok.ensures.value in
    let ok : is_ok c.and.result ≡ is_ok c.end_call.result = ap (λ (r : Result ℕ Failed). is_ok r) c.and.ensures ∙ and_ok c.end_call.result heard outcome ended_ok in
    let afterwards : step.new.heard ≡ (run (fresh_state (items_of m.first.items)) calls).heard = (kept_hear_part (items_of m.first.items) m.calls.items m.script.items m.held.items m.said.items m.heard m.handed.items m.kept outcome found calls step.new.heard adds (from_err (step.new.heard ≡ m.heard) heard step.ensures.stays) step.ensures.fits).heard_is in
    let hears : is_whole outcome && found ≡ true → IfOk heard (λ n. Moved m.script.items m.heard step.new.heard n buf) → IfOk heard (λ n. Hears (memory_seen m) later n buf) =
    λ fine. mapped (λ n. Moved m.script.items m.heard step.new.heard n buf) (λ n. Hears (memory_seen m) later n buf) heard (λ n moved.
    let by = moved_by m.script.items buf (run (fresh_state (items_of m.first.items)) m.calls.items).heard (run (fresh_state (items_of m.first.items)) calls).heard m.heard step.new.heard n m.kept.heard_is afterwards moved in
    (by.0, by.1, by.2, hear_ended (story_of m) (host_counts m) new rises m.heard step.new.heard n calls (whole_step (λ o. IsHear o m.heard step.new.heard) outcome found m.calls.items calls fine adds) moved.3)) in
    let faults : c.end_call.new.faults ≡ (if is_ok c.and.result then m.talk_faults else next m.talk_faults) = ended.faults ∙ ap (λ (b : Bool). if b then m.talk_faults else next m.talk_faults) (sym ok) in
    let dry : c.end_call.new.dry ≡ (if not found then next m.dry else m.dry) = ended.dry ∙ ap (λ (b : Bool). if not b then next m.dry else m.dry) c.is_ok.ensures.value in
    record {
      count = subst (λ (r : Result ℕ Failed). IfOk r (λ n. n ≤ length c.args.buf.now)) (sym c.and.ensures) (if_both (λ n. n ≤ length c.args.buf.now) c.end_call.result heard (λ is_fine. step.ensures.count));
      taken = λ tells. subst (λ (r : Result ℕ Failed). IfOk r (λ n. Hears (memory_seen m) later n buf)) (sym c.and.ensures)
          (if_both (λ n. Hears (memory_seen m) later n buf) c.end_call.result heard (λ is_fine. hears (sym ended_ok ∙ is_fine) (step.ensures.taken (ok_whole outcome found (sym ended_ok ∙ is_fine)))));
      nothing = on_err (Quiet (memory_seen m) later) c.and.result (λ failed. (nothing_failed Act.Hear outcome found (memory_seen m) later (λ nothing. nothing) took (sym ended_ok ∙ sym ok ∙ failed)).quiet);
      silent = hear_silent (story_of m) (host_counts m) new rises m.heard step.new.heard outcome found calls adds;
      still = hear_still (story_of m) (host_counts m) new rises m.heard step.new.heard outcome found calls refl adds;
      ticks = adds_ticks (story_of m) (host_counts m) new rises found (IsHear outcome m.heard step.new.heard) calls adds;
      cause = λ failed. rose (is_ok c.and.result) m.talk_faults c.end_call.new.faults faults (is_failed c.and.result failed);
      account = refl;
      ending = ends Act.Hear m _ outcome found (is_ok c.and.result) plan is (ok ∙ ended_ok) refl refl (kept_count (is_ok c.and.result) m.disk_faults) (failed_count (is_ok c.and.result) m.talk_faults c.end_call.new.faults faults) dry took;
    }
