use Rattle.std.proofs.Common.{◌≡◌, ◌∙◌, ℕ, List, IfOk, ap, subst}
use Rattle.ldm_view.specs.Patches.{shown}
use Rattle.ldm_found.specs.Answers.{FindsIn}
use Rattle.ldm_found.specs.Facts.{LieOn}
use Rattle.ldm_repair.proofs.ViewingLaws.{shown_as}
use Rattle.ldm_repair.proofs.viewing.find_in.Goals as goal

pub returns-in-Ok-clause-found : goal.returns-in-Ok-clause-found
returns-in-Ok-clause-found g c tells =
    let view = c.in-Ok.view in
    let now = (g.H.Host.seen view.host).content in
    let is : shown view.patches.items now ≡ shown g.S.Start.patches (g.H.Host.seen c.args.under.host).content =
    shown_as g.S.Start.patches view.patches.items now view.fixed ∙ ap (λ (h : g.row.H.Denot). shown g.S.Start.patches (g.H.Host.seen h).content) c.in-Ok.ensures.host in
    subst (λ (l : List (List ℕ)). FindsIn l c.find_group-found.result) is (c.find_group-found.ensures.found tells)

pub returns-in-Ok-clause-lies : goal.returns-in-Ok-clause-lies
returns-in-Ok-clause-lies g c =
    subst (λ (h : g.row.H.Denot). IfOk c.find_group-found.result (λ found. LieOn found.labels (g.H.Host.seen h).sizes)) c.in-Ok.ensures.host c.find_group-found.ensures.lies
