use Rattle.std.proofs.Common.{◌≡◌, List, Option, ap, ◌∙◌}
use Rattle.ldm_label.specs.declared.Label.{Label}
use Rattle.ldm_copy.specs.declared.fault.OpenFault.{OpenFault}
use Rattle.ldm_found.specs.Editing.{blocked_in}
use Rattle.ldm_found.specs.Opening.{found_with}
use Rattle.ldm_label.proofs.ReadLaws.{handed_on}
use Rattle.ldm_found.proofs.GroupLaws.{newest_sound, newest_failed, newest_found}
use Rattle.ldm_found.proofs.choosing.group_of.Goals as goal

pub returns-in_err-check_newest-clause-is : goal.returns-in_err-check_newest-clause-is
returns-in_err-check_newest-clause-is c =
    rw (handed_on c.from_residual.result c.in_err-check_newest.field-0.0 c.from_residual.ensures.1)
    (newest_failed c.args.newest c.args.labels c.args.notes c.in_err-check_newest.field-0.0
    c.in_err-check_newest.ensures.is)

pub returns-clause-is : goal.returns-clause-is
returns-clause-is c =
    let blocked : c.blocked-blocked.result ≡ blocked_in c.args.newest.db c.args.labels =
    c.blocked-blocked.ensures ∙ ap (λ (labels : List Label). blocked_in c.args.newest.db labels) c.as_slice.ensures in
    newest_found c.args.newest c.args.labels c.args.notes _ (ap (λ (b : Option OpenFault). record (found_with c.args.newest.db c.args.labels c.args.notes) { blocked = b }) blocked)
    c.in_ok-check_newest.ensures.is

pub returns-clause-sound : goal.returns-clause-sound
returns-clause-sound c =
    record {
      group = record {
        sound = newest_sound c.args.newest c.args.labels c.in_ok-check_newest.ensures.is;
        ends = c.in_ok-check_newest.ensures.ends;
        laid_out = c.in_ok-check_newest.ensures.laid_out;
        room = c.requires.room;
        apart = c.requires.apart;
        own = c.in_ok-check_newest.ensures.own;
      };
      one_note = c.requires.one_note;
      blocked_is = c.blocked-blocked.ensures ∙ ap (λ (labels : List Label). blocked_in c.args.newest.db labels) c.as_slice.ensures;
    }
