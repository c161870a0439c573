use Rattle.std.proofs.Common.{◌≡◌, rules, ap, ◌∙◌}
use Rattle.ldm_group.specs.Hits.{count_in}
use Rattle.ldm_group.proofs.HitLaws.{count_found}
use Rattle.ldm_group.proofs.looks.count_of.Goals as goal

pub returns : goal.returns
returns c = λ records test is.
    let found : c.map_or.result ≡ count_in c.args.found = search rules in
    found ∙ ap count_in is ∙ count_found test records
