use Rattle.std.proofs.Common.{refl, ◌∙◌, Ok}
use Rattle.ldm_look.specs.Mapping.{map_answer}
use Rattle.ldm_look.proofs.AnswerLaws.{same_name}
use Rattle.ldm_look.proofs.EndLaws.{says_first}
use Rattle.ldm_look.proofs.looking.map.Goals as goal

pub returns-in-Err : goal.returns-in-Err
returns-in-Err g c = c.in-Err.ensures.fault (map_answer c.args.format.now c.args.name.now c.args.first c.args.count)

pub returns : goal.returns
returns g c =
    let found = c.in-Ok.found in
    let is = same_name c.args.format.now _ _ c.args.first c.args.count found _ c.as_slice.ensures c.in-Ok-mapped.ensures.is in
    says_first (c.say_made.ensures.says c.in-Ok-mapped.text refl) c.in-Ok.ensures.looks g.met.H.Host.tells_both
    (λ tells answer e. (Ok found, c.in-Ok.ensures.found tells, e ∙ is))
