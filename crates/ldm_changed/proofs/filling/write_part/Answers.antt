use Rattle.std.proofs.Common.{rules}
use Rattle.std.proofs.lemmas.List.{places}
use Rattle.ldm_body.proofs.RewriteLaws.{on_ok_map}
use Rattle.ldm_changed.proofs.filling.write_part.Goals as goal

pub returns-clause-written : goal.returns-clause-written
returns-clause-written g c tells =
    on_ok_map c.write_at.result _ _ (λ is k low high. rw is (search (rules, places))) (c.write_at.ensures.written tells)
