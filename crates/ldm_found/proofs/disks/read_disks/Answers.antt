use Rattle.std.proofs.Common.{subst}
use Rattle.ldm_found.specs.Labels.{AreApart}
use Rattle.ldm_found.proofs.disks.read_disks.Goals as goal

pub returns-in-None-clause-is : goal.returns-in-None-clause-is
returns-in-None-clause-is g c tells = (c.in_ok-labels.ensures.is tells, subst AreApart c.as_slice.ensures c.in-None.ensures)

pub returns-in-None-clause-apart : goal.returns-in-None-clause-apart
returns-in-None-clause-apart g c = subst AreApart c.as_slice.ensures c.in-None.ensures
