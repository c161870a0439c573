use Rattle.std.proofs.Common.{arith, subst, sym}
use Rattle.ldm_records.proofs.Sound.{group_sound, GroupFits}
use Rattle.ldm_records.proofs.listing.group_sound.Goals as goal

pub returns-in-V3 : goal.returns-in-V3
returns-in-V3 c = group_sound c.args.g.now (omega arith) (omega arith) (subst GroupFits (sym c.in-V3.is) c.has_len.ensures)

pub returns-in-V4 : goal.returns-in-V4
returns-in-V4 c = group_sound c.args.g.now (omega arith) (omega arith) (subst GroupFits (sym c.in-V4.is) c.has_len-in-V4.ensures)
