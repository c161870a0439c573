use Rattle.std.proofs.Common.{arith, subst, sym}
use Rattle.ldm_records.proofs.Sound.{disk_sound, DiskFits}
use Rattle.ldm_records.proofs.listing.disk_sound.Goals as goal

pub returns-in-V3 : goal.returns-in-V3
returns-in-V3 c = disk_sound c.args.d.now (omega arith) (omega arith) (omega arith) (subst DiskFits (sym c.in-V3.is) c.has_len.ensures)

pub returns-in-V4 : goal.returns-in-V4
returns-in-V4 c = disk_sound c.args.d.now (omega arith) (omega arith) (omega arith) (subst DiskFits (sym c.in-V4.is) c.has_len-in-V4.ensures)
