use Rattle.std.proofs.Common.{map}
use Rattle.ldm_edits.proofs.Common.{data_size}
use Rattle.ldm_edits.proofs.AskedLaws.{AreAsked}
use Rattle.ldm_edits.proofs.asked.asked_pieces.Given as goal

abbrev pub invariant-loop-at : goal.invariant-loop-at
invariant-loop-at l = AreAsked (data_size l.labels l.db.records) l.db.records (map (λ p. (p.disk, p.len)) l.pieces) l.at l.wanted.items
