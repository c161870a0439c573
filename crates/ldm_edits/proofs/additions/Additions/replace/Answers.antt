use Rattle.std.proofs.Common.{◌≡◌, ◌∙◌, ℕ, ◌+◌, ◌-◌, ap, sym, refl, arith, None}
use Rattle.ldm_edits.proofs.Common.{first_of, Header, Database, need_of}
use Rattle.ldm_edits.specs.Additions.{with_added}
use Rattle.ldm_edits.specs.Changes.{Change, limits}
use Rattle.ldm_edits.specs.Staying.{change_of}
use Rattle.ldm_edits.proofs.LimitLaws.{ids_left, need_both, within_limits}
use Rattle.ldm_edits.proofs.PlaceLaws.{IsReplaced, MayReplace, added_fit, leaving_few, need_stays, replaced_additions, replaced_adds, replaced_few}
use Rattle.ldm_edits.proofs.additions.Additions.replace.Goals.{After-later_limit}
use Rattle.ldm_edits.proofs.additions.Additions.replace.Goals as goal

abbrev group : After-later_limit → Database
group c = with_added c.args.db.now c.args.self.now

abbrev change : After-later_limit → Change
change c = change_of c.args.step.leaving (group c).records c.args.step.made.items

may : (c : After-later_limit) → MayReplace c.args.db.now c.args.self.now c.args.own.now.records c.args.step
may c = assumption

stays : (c : After-later_limit) → c.args.self.now.need - c.need_leaving.result ≡ need_of (change c).stay
stays c = need_stays (may c) (rw c.as_slice.ensures.value at c.need_leaving.ensures.is)

-- the first limit that is passed
limited : (c : After-later_limit) → c.later_limit.result
    ≡ first_of (limits (group c) c.args.labels.now c.args.step.fresh (change c))
limited c =
    let seq = ap (λ (h : Header). h.seq) c.header.ensures in
    c.later_limit.ensures (group c) (change c) seq (stays c) c.as_slice-2.ensures.value ∙ ids_left _ _ _ _ c.requires.step.ids

replaced : (c : After-later_limit) → c.later_limit.result ≡ None → {made : ℕ} → made ≡ need_of c.args.step.made.items
    → IsReplaced c.args.db.now c.args.labels.now c.args.self.now c.args.own.now.records c.args.step
    (c.args.self.now.need - c.need_leaving.result + made)
replaced c none made_is =
    let within = sym (limited c) ∙ none in
    assumption (may c, need_both (change c).stay c.args.step.made.items _ _ (stays c) made_is)

pub need_leaving-requires : goal.need_leaving-requires
need_leaving-requires c = rw c.as_slice.ensures.value (added_fit c.args.db.now.records _ c.requires.sound.room.each)

pub overflow_sub-staying : goal.overflow_sub-staying
overflow_sub-staying c =
    let may : MayReplace c.args.db.now c.args.self.now c.args.own.now.records c.args.step = assumption in
    leaving_few may (rw c.as_slice.ensures.value at c.need_leaving.ensures.is)

pub returns-in-Some-clause-is : goal.returns-in-Some-clause-is
returns-in-Some-clause-is c = (rw (← limited (goal.at.returns-in-Some-clause-is c).After-later_limit, c.in-Some.is), refl)

pub need_made-requires : goal.need_made-requires
need_made-requires c =
    let within = within_limits _ _ _ _ (sym (limited (goal.at.need_made-requires c).After-later_limit) ∙ c.in_default.is) in
    rw c.as_slice-3.ensures.value within.each

pub put-requires : goal.put-requires
put-requires c =
    let made = rw c.as_slice-3.ensures.value at c.need_made.ensures.is in
    replaced_few (replaced (goal.at.put-requires c).After-later_limit c.in_default.is made) c.requires.areas

pub returns : goal.returns
returns c =
    let made = rw c.as_slice-3.ensures.value at c.need_made.ensures.is in
    let replaced = replaced (goal.at.returns c).After-later_limit c.in_default.is made in
    record {
      are = replaced_additions replaced c.in_ok-put.ensures.ok c.requires.disks;
      is = replaced_adds replaced c.in_ok-put.ensures.ok;
      unspent = omega (arith, (within_limits _ _ _ _ replaced.within).seq);
    }
