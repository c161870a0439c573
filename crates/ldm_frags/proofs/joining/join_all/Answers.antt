use Rattle.std.proofs.Common.{sym}
use Rattle.ldm_frags.specs.Kept.{blocks_of}
use Rattle.ldm_frags.proofs.JoinLaws.{clean_joins, group_first}
use Rattle.ldm_frags.proofs.joining.join_all.Goals as goal

pub returns-in-Some : goal.returns-in-Some
returns-in-Some c = group_first (blocks_of c.args.pieces.now) c.in-Some.fault c.requires.kept.sound (sym c.in-Some.ensures)

pub returns : goal.returns
returns c = clean_joins (blocks_of c.args.pieces.now) c.requires.kept.sound (sym c.in_default.ensures) _ c.in_ok-all_entries.ensures
