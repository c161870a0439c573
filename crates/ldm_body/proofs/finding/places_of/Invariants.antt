use Rattle.ldm_body.specs.Finding.{HasPlaces}
use Rattle.ldm_body.proofs.finding.places_of.Given as goal

abbrev pub invariant-loop-k : goal.invariant-loop-k
invariant-loop-k l = HasPlaces l.blocks l.k l.places.items
