use Rattle.std.proofs.Common.{rules, IfSome, sym, subst, ◌∙◌, ap, ℕ, List}
use Rattle.ldm_copy.specs.declared.found.Found.{Found}
use Rattle.ldm_found.specs.Facts.{LieOn}
use Rattle.ldm_damage.proofs.LookLaws.{same_sizes}
use Rattle.ldm_tool.proofs.over.group_past.Goals as goal

-- the disks have as many sectors as where the group was found
pub returns-clause-lies : goal.returns-clause-lies
returns-clause-lies g c =
    subst (λ (sizes : List ℕ). IfSome c.ok.result (λ (found : Found). LieOn found.labels sizes))
    (sym (same_sizes (g.H.Host.seen c.find_damage-under.result.0.host) (g.H.Host.seen c.find_shown-under.result.0.host) c.find_shown-under.ensures.looked.still) ∙ ap (λ h. (g.H.Host.seen h).sizes) (sym c.host_of-2.ensures))
    (search rules)
