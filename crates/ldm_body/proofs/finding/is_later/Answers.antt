use Rattle.std.proofs.Common.{◌≡◌, ◌∙◌, rules, arith}
use Rattle.ldm_body.specs.Finding.{part_at}
use Rattle.ldm_body.proofs.FindLaws.{place_is}
use Rattle.ldm_body.proofs.finding.is_later.Goals as goal

pub returns-then-part-get_u16 : goal.returns-then-part-get_u16
returns-then-part-get_u16 c =
    let here : c.place_in.result ≡ part_at c.args.blocks.now c.get_u32-group.result c.get_u16-part.result =
    c.place_in.ensures ∙ place_is c.args.blocks.now c.args.places.now c.requires.places c.get_u32-group.result c.get_u16-part.result (omega arith) (omega arith) (omega arith) in
    search rules
