use Rattle.std.proofs.Common.{◌∙◌, sym}
use Rattle.ldm_frags.specs.Blocks.{count, is_part}
use Rattle.ldm_frags.specs.Kept.{blocks_of}
use Rattle.ldm_frags.proofs.Below.{passing_past, passing_least}
use Rattle.ldm_frags.proofs.KeptLaws.{count_of}
use Rattle.ldm_frags.proofs.groups.place_of.Goals as goal

pub returns-in-None : goal.returns-in-None
returns-in-None c =
    let blocks = blocks_of c.args.pieces.now in
    let past = passing_past (count blocks) (is_part blocks c.args.number c.args.part) (sym (c.in-None.ensures ∙ c.requires.table.places c.args.number c.args.part c.requires.few)) in
    let many = count_of c.args.pieces.now in
    cc

pub returns-in-Some : goal.returns-in-Some
returns-in-Some c =
    let blocks = blocks_of c.args.pieces.now in
    sym (passing_least (count blocks) _ (is_part blocks c.args.number c.args.part) (sym (c.in-Some.ensures ∙ c.requires.table.places c.args.number c.args.part c.requires.few)))
