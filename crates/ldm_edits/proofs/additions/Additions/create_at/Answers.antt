use Rattle.std.proofs.Common.{◌≡◌, ◌∙◌, ap, sym, refl, arith, None}
use Rattle.ldm_edits.proofs.Common.{first_of, Header, Database}
use Rattle.ldm_edits.specs.Additions.{with_added}
use Rattle.ldm_edits.specs.Changes.{Change, limits}
use Rattle.ldm_edits.specs.Creating.{change_for, fresh_for}
use Rattle.ldm_edits.proofs.AdditionLaws.{IsMore, more_additions, more_adds, more_few, more_fits, more_within, needs, top}
use Rattle.ldm_edits.proofs.AskedLaws.{placed_taken}
use Rattle.ldm_edits.proofs.LimitLaws.{change_spent, ids_left}
use Rattle.ldm_edits.proofs.additions.Additions.create_at.Goals.{After-later_limit}
use Rattle.ldm_edits.proofs.additions.Additions.create_at.Goals as goal

abbrev group : After-later_limit → Database
group c = with_added c.args.db.now c.args.self.now

abbrev change : After-later_limit → Change
change c = change_for (group c) c.args.name.now c.args.guid c.args.layout.now c.args.spots.now

made_is : (c : After-later_limit) → c.in_ok-made.made.items ≡ (change c).made
made_is c = rw (top c.requires.are) at c.in_ok-made.ensures

-- the first limit that is passed
limited : (c : After-later_limit) → c.later_limit.result
    ≡ first_of (limits (group c) c.args.labels.now (fresh_for c.args.layout.now) (change c))
limited c =
    let seq = ap (λ (h : Header). h.seq) c.header.ensures in
    c.later_limit.ensures (group c) (change c) seq (needs c.requires.are) (c.as_slice.ensures.value ∙ made_is c)
    ∙ ids_left _ _ _ _ (omega (arith, top c.requires.are))

more : (c : After-later_limit) → c.later_limit.result ≡ None
    → IsMore c.args.db.now c.args.labels.now c.args.self.now c.args.name.now c.args.guid c.args.layout.now
    c.args.spots.now c.in_ok-made.made.items
more c none = (let within = sym (limited c) ∙ none in assumption (made_is c))

pub returns-then-fresh-self-clause-is : goal.returns-then-fresh-self-clause-is
returns-then-fresh-self-clause-is c = (change_spent _ _ _ _ (omega (arith, top c.requires.are)), refl)

pub made_for-requires-clause-sizes : goal.made_for-requires-clause-sizes
made_for-requires-clause-sizes c =
    (placed_taken c.args.layout.now c.requires.limits.layout_is c.requires.placed.1 (omega (arith, top c.requires.are))).sizes

pub returns-in-Some-clause-is : goal.returns-in-Some-clause-is
returns-in-Some-clause-is c = (rw (← limited (goal.at.returns-in-Some-clause-is c).After-later_limit, c.in-Some.is), refl)

pub add-requires-clause-made : goal.add-requires-clause-made
add-requires-clause-made c = more_fits (more (goal.at.add-requires-clause-made c).After-later_limit c.in_default.is)

pub add-requires-clause-few : goal.add-requires-clause-few
add-requires-clause-few c =
    more_few (more (goal.at.add-requires-clause-few c).After-later_limit c.in_default.is) c.requires.areas

pub returns : goal.returns
returns c =
    let more = more (goal.at.returns c).After-later_limit c.in_default.is in
    record {
      are = more_additions more c.in_ok-add.ensures.ok c.requires.free c.requires.maps;
      is = more_adds more c.in_ok-add.ensures.ok;
      unspent = omega (arith, (more_within more).seq);
    }
