use Rattle.std.proofs.Common.{◌≡◌, ◌+◌, List, ℕ, length, slice_range, Bool, not, ◌||◌, is_ok, refl, ◌∙◌, ap, subst, arith}
use Rattle.ldm_host.specs.declared.host.DiskRange.{DiskRange}
use Rattle.ldm_memory.specs.Steps.{EndsRead, is_whole}
use Rattle.ldm_memory.specs.Ending.{is_unreadable}
use Rattle.ldm_host.specs.Images.{items_of}
use Rattle.ldm_memory.specs.Memory.{memory_seen, story_of, host_counts}
use Rattle.ldm_host.specs.Seen.{image}
use Rattle.ldm_memory.specs.Story.{Counts, fresh_state, run}
use Rattle.ldm_memory.proofs.DoneLaws.{read_still, read_took, grown, same_where_ok, added_where_not, ends_read, outcome_is, plan_is, rose, on_ok, is_failed}
use Rattle.ldm_memory.proofs.CallLaws.{CountsRise}
use Rattle.ldm_memory.proofs.HeldLaws.{there, fits, image_is}
use Rattle.ldm_memory.proofs.in_memory.MemoryHostHost.read_at.Goals as goal

pub read_in-requires : goal.read_in-requires
read_in-requires c =
    let m = c.args.self.now in
    let disks = (run (fresh_state (items_of m.first.items)) m.calls.items).disks in
    record {
      disk = there m.held.items disks m.kept.content c.args.disk c.requires.disk;
      range = fits m.held.items disks m.kept.content c.args.disk c.requires.disk c.args.at (length c.args.buf.now) c.requires.range;
    }

pub returns : goal.returns
returns c =
    let m = c.args.self.now in
    let outcome = c.next_outcome-outcome.result in
    let ended = c.end_read-done.ensures.is in
    let range : DiskRange = record { disk = c.args.disk; at = c.args.at; length = length c.args.buf.now } in
    let ok = is_ok c.end_read-done.result in
    let plan = plan_is m c.next_outcome-outcome.new.number c.next_outcome-outcome.ensures.number in
    let is = outcome_is m c.next_outcome-outcome.new.number outcome c.next_outcome-outcome.ensures.outcome c.next_outcome-outcome.ensures.number in
    let disks = (run (fresh_state (items_of m.first.items)) m.calls.items).disks in
    let failed = c.end_read-done.new.failed.items in
    let new : Counts = record { disk_faults = c.end_read-done.new.faults; talk_faults = m.talk_faults; dry = c.end_read-done.new.dry; wrote = m.handed.items; failed = failed } in
    let rises : CountsRise (host_counts m) new = record { disk_faults = c.end_read-done.ensures.rises; talk_faults = omega arith; failed = grown ok range m.failed.items failed ended.failed } in
    record {
      filled = λ tells. on_ok (c.read_in.new.buf ≡ slice_range (image (memory_seen m).content c.args.disk) c.args.at (c.args.at + length c.args.buf.now)) c.end_read-done.result
          (λ is_fine. c.read_in.ensures (c.is_ok.ensures.value ∙ is_fine) ∙ ap (λ (l : List ℕ). slice_range l c.args.at (c.args.at + length c.args.buf.now)) (image_is m.held.items disks m.kept.content c.args.disk c.requires.disk));
      looks = record {
        still = read_still (story_of m) (host_counts m) new rises refl;
        quiet = record { said = refl; heard = refl; input = refl };
        cause = λ failed. rose ok m.disk_faults c.end_read-done.new.faults ended.faults_are (is_failed c.end_read-done.result failed);
      };
      read = λ tells. same_where_ok c.end_read-done.result range m.failed.items failed ended.failed;
      failed = λ tells. added_where_not c.end_read-done.result range m.failed.items failed ended.failed;
      ending = ends_read range m _ outcome ok plan is refl refl
          (subst (λ (b : Bool). EndsRead b ok range m.failed.items failed m.disk_faults c.end_read-done.new.faults m.dry c.end_read-done.new.dry) (c.is_read_to_fail-fails.ensures ∙ ap (λ (l : List DiskRange). not (is_whole outcome) || is_unreadable l range) c.deref.ensures.value) ended)
          (read_took (story_of m) (host_counts m) new rises);
    }
