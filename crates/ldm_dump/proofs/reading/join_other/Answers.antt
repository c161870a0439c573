use Rattle.ldm_dump.proofs.reading.join_other.Goals as goal

pub join_spot-requires-clause-has : goal.join_spot-requires-clause-has
join_spot-requires-clause-has g c = c.requires.has c.in-Some.spot cc

pub returns-in-Some-clause-bytes : goal.returns-in-Some-clause-bytes
returns-in-Some-clause-bytes g c tells = rw (← c.other_spot.ensures, c.in-Some.is) (c.join_spot.ensures.bytes tells)
