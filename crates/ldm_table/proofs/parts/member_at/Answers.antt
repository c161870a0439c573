use Rattle.std.proofs.Common.{ap, ◌∙◌, Option}
use Rattle.ldm_places.specs.declared.shape.Place.{Place}
use Rattle.ldm_dump.specs.Sources.{spot_at}
use Rattle.ldm_table.proofs.VolumeLaws.{some_sector}
use Rattle.ldm_table.proofs.parts.member_at.Goals as goal

pub member_from-requires : goal.member_from-requires
member_from-requires g c = λ s is.
    c.requires.lies 0 c.args.column s (some_sector c.args.plan.now c.requires.rows) c.requires.raid5 (ap (λ (p : Option Place). spot_at c.args.found.now p) c.column.ensures ∙ is)

pub column-requires-clause-within : goal.column-requires-clause-within
column-requires-clause-within g c = some_sector c.args.plan.now c.requires.rows
