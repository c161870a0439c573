use Rattle.std.proofs.Common.{arith, ◌++◌, ℕ, List, length, refl, ap, ◌∙◌}
use Rattle.std.specs.List.{range_with_len}
use Rattle.std.proofs.lemmas.List.{append-nil}
use Rattle.ldm_host.proofs.Relations.{still_itself}
use Rattle.ldm_dump.proofs.ByteLaws.{begins_of}
use Rattle.ldm_scrub.specs.Compare.{is_bad_at}
use Rattle.ldm_scrub.proofs.CompareLaws.{silent, lines_are, bad_are}
use Rattle.ldm_scrub.proofs.scrubbing.say_marked.Goals as goal

pub returns-then-bad-eq0-clause-count : goal.returns-then-bad-eq0-clause-count
returns-then-bad-eq0-clause-count g c images found marked = grind (arith, bad_are)

pub returns-then-bad-eq0-clause-said : goal.returns-then-bad-eq0-clause-said
returns-then-bad-eq0-clause-said g c tells images found marked = grind (arith, append-nil, silent)

pub returns-in_err-say-clause-front : goal.returns-in_err-say-clause-front
returns-in_err-say-clause-front g c images found marked =
    begins_of _ _ _ _ (c.push_lines-end.ensures.is (is_bad_at images found c.args.plan.now) marked ∙ lines_are c.args.format.now images found c.args.plan.now (range_with_len c.args.place (length c.args.marks.now))) c.in_err-say.ensures.front

pub returns-clause-said : goal.returns-clause-said
returns-clause-said g c tells images found marked =
    let said = (g.H.Host.seen c.args.host.now).said in
    let text = c.push_lines-end.ensures.is (is_bad_at images found c.args.plan.now) marked ∙ lines_are c.args.format.now images found c.args.plan.now (range_with_len c.args.place (length c.args.marks.now)) in
    c.in_ok-say.ensures.said tells ∙ ap (λ (t : List ℕ). said ++ t) text

pub returns-clause-count : goal.returns-clause-count
returns-clause-count g c images found marked = grind (arith, bad_are)

pub returns-clause-front : goal.returns-clause-front
returns-clause-front g c images found marked =
    begins_of _ _ _ _ (c.push_lines-end.ensures.is (is_bad_at images found c.args.plan.now) marked ∙ lines_are c.args.format.now images found c.args.plan.now (range_with_len c.args.place (length c.args.marks.now))) c.in_ok-say.ensures.front

pub returns-then-bad-eq0-clause-still : goal.returns-then-bad-eq0-clause-still
returns-then-bad-eq0-clause-still g c = still_itself (g.H.Host.seen c.args.host.now) (g.met.H.Host.counts_now c.args.host.now) (g.met.H.Host.only_now c.args.host.now)

pub returns-then-bad-eq0-clause-input : goal.returns-then-bad-eq0-clause-input
returns-then-bad-eq0-clause-input g c = record { input = refl; heard = refl }

pub returns-in_err-say-clause-input : goal.returns-in_err-say-clause-input
returns-in_err-say-clause-input g c = record { input = c.in_err-say.ensures.input; heard = c.in_err-say.ensures.heard }

pub returns-clause-input : goal.returns-clause-input
returns-clause-input g c = record { input = c.in_ok-say.ensures.input; heard = c.in_ok-say.ensures.heard }
