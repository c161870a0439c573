use Rattle.std.proofs.Common.{◌≡◌, ◌∙◌, Some, sym, ap, subst}
use Rattle.ldm_view.specs.Patches.{shown}
use Rattle.ldm_repair.specs.Repairing.{MayRepair, damaged_label}
use Rattle.ldm_repair.proofs.AnswerLaws.{label_bars}
use Rattle.ldm_repair.proofs.repairing.repair_past.Goals as goal

pub refuse_repair-requires-clause-none : goal.refuse_repair-requires-clause-none
refuse_repair-requires-clause-none g c told found may =
    let content = (g.H.Host.seen c.args.under.host).content in
    let is : damaged_label c.args.damages.items ≡ Some (c.in-Some.image, c.in-Some.fault) = ap damaged_label (sym c.deref.ensures.value) ∙ sym c.damaged_label.ensures ∙ c.in-Some.is in
    label_bars content (shown c.args.under.patches.items content) c.args.damages.items (c.requires.damaged told) (c.in-Some.image, c.in-Some.fault) is found
    (subst (λ (h : g.row.H.Denot). MayRepair (g.H.Host.seen h).content found) c.host_of.ensures may)
