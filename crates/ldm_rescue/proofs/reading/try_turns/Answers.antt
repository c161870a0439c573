use Rattle.std.proofs.Common.{ℕ, List, Option, ap, ◌∙◌, subst, arith, false}
use Rattle.std.specs.Option.{option_or, option_to_list}
use Rattle.ldm_host.proofs.Relations.{looks_then}
use Rattle.ldm_rescue.specs.Rescued.{source_in, IsRescued}
use Rattle.ldm_host.specs.Failed.{failed_since}
use Rattle.ldm_rescue.proofs.SourceLaws.{sources_to}
use Rattle.ldm_rescue.proofs.RescueLaws.{covers_later, covers_sooner, are_unread_covered, rescued_covered, tried_covered, turn_read, turn_next, turns_done}
use Rattle.ldm_rescue.proofs.reading.try_turns.Goals as goal

pub returns-in-Ok-clause-tried : goal.returns-in-Ok-clause-tried
returns-in-Ok-clause-tried g c tells =
    let found = c.args.found.now in
    let l = c.args.plan.now in
    let x = c.args.sector in
    let old = g.H.Host.seen c.args.host.now in
    let mid = g.H.Host.seen c.turns.host in
    let new = g.H.Host.seen c.try_turn.new.host in
    let first = c.turns.invariant.looks.still.later.failed in
    let next = c.in-Ok.ensures.looks.still.later.failed in
    turn_read old.content (failed_since old new) found l x c.turns.turn c.try_turn.new.out (omega (arith, c.turns-turn-end.ensures, c.turns-test.true))
    (are_unread_covered (failed_since old mid) (failed_since old new) (sources_to found l x c.turns.turn) (covers_later old.failed mid.failed new.failed first next) (c.turns.invariant.tried tells).0)
    (rescued_covered old.content (failed_since mid new) (failed_since old new) (option_to_list (source_in found l x c.turns.turn)) c.try_turn.new.out false (covers_sooner old.failed mid.failed new.failed first next)
    (subst (λ (images : List (List ℕ)). IsRescued images (failed_since mid new) (option_to_list (source_in found l x c.turns.turn)) c.try_turn.new.out false) c.turns.invariant.looks.still.content (c.in-Ok.ensures.tried tells)))

pub returns-in-Ok-clause-looks : goal.returns-in-Ok-clause-looks
returns-in-Ok-clause-looks g c = looks_then c.turns.invariant.looks c.in-Ok.ensures.looks (λ is. is)

pub turns-preserved : goal.turns-preserved
turns-preserved g c =
    let found = c.args.found.now in
    let l = c.args.plan.now in
    let x = c.args.sector in
    let old = g.H.Host.seen c.args.host.now in
    let mid = g.H.Host.seen c.turns.host in
    let new = g.H.Host.seen c.try_turn.new.host in
    let first = c.turns.invariant.looks.still.later.failed in
    let next = c.in-Err.ensures.looks.still.later.failed in
    record {
      looks = looks_then c.turns.invariant.looks c.in-Err.ensures.looks (λ is. is);
      tried = λ tells. turn_next (failed_since old new) found l x c.turns.turn c.turns.unread c.in-Err.image _
          (tried_covered (failed_since old mid) (failed_since old new) (sources_to found l x c.turns.turn) c.turns.unread (covers_later old.failed mid.failed new.failed first next) (c.turns.invariant.tried tells))
          (tried_covered (failed_since mid new) (failed_since old new) (option_to_list (source_in found l x c.turns.turn)) c.in-Err.image (covers_sooner old.failed mid.failed new.failed first next) (c.in-Err.ensures.tried tells))
          (λ is. c.or-unread.ensures ∙ ap (λ (o : Option ℕ). option_or o c.turns.unread) is)
          (λ image is. c.or-unread.ensures ∙ ap (λ (o : Option ℕ). option_or o c.turns.unread) is);
    }

pub returns-clause-tried : goal.returns-clause-tried
returns-clause-tried g c tells =
    turns_done _ c.args.found.now c.args.plan.now c.args.sector c.turns.turn c.turns.unread (omega (arith, c.turns-turn-end.ensures, c.turns-test.false, c.turns.auto.turn-end)) (c.turns.invariant.tried tells)
