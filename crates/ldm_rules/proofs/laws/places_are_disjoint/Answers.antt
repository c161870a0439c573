use Rattle.ldm_rules.proofs.SoundLaws.{disjoint, ends_in_range}
use Rattle.ldm_rules.proofs.laws.places_are_disjoint.Goals as goal

pub returns-clause-disjoint : goal.returns-clause-disjoint
returns-clause-disjoint c = disjoint

pub returns-clause-ends : goal.returns-clause-ends
returns-clause-ends c = ends_in_range
