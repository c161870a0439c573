use Rattle.std.proofs.Common.{◌≡◌, ◌+◌, ◌^◌, ◌<◌, ◌≤◌, sym, ap, ◌∙◌, subst, arith, get_or, set, length, ℕ, List, Some, None, Option, false}
use Rattle.std.specs.List.{All, position}
use Rattle.std.proofs.lemmas.Bool.{leb-true}
use Rattle.std.proofs.lemmas.List.Elements.{All-set}
use Rattle.ldm_space.specs.Gaps.{Gap, AreGaps, TakesFirst, has_length, first_gap, shorter, without_first}
use Rattle.ldm_space.proofs.GapLaws.{IsFirstLong, first_at, starts_first, is_removed, is_shortened, none_long, none_starts, all_stay, takes_whole, takes_part, takes_none}
use Rattle.ldm_space.proofs.gaps.FreeMap.take.Goals as goal

-- none is long enough

short : (len : ℕ) (items slice : List Gap) (r : Option ℕ) → slice ≡ items → r ≡ None → r ≡ position (has_length len) slice → All (λ g. has_length len g ≡ false) items
short len items slice r same none is = none_long len items (ap (position (has_length len)) (sym same) ∙ (sym is ∙ none))

pub returns-in_err-at-clause-found : goal.returns-in_err-at-clause-found
returns-in_err-at-clause-found c = c.from_residual.ensures ∙ sym (none_starts c.args.len c.args.self.now
    (short c.args.len c.args.self.now c.as_slice.result.now c.first_long.result (c.as_slice.ensures.value ∙ c.self.view_is) c.in_err-at.was c.first_long.ensures))

pub returns-in_err-at-clause-left : goal.returns-in_err-at-clause-left
returns-in_err-at-clause-left c = sym (all_stay c.args.len c.args.self.now
    (short c.args.len c.args.self.now c.as_slice.result.now c.first_long.result (c.as_slice.ensures.value ∙ c.self.view_is) c.in_err-at.was c.first_long.ensures))

pub returns-in_err-at-clause-first : goal.returns-in_err-at-clause-first
returns-in_err-at-clause-first c taken disk size are =
    subst (λ (r : Option ℕ). TakesFirst taken disk size c.args.len r c.args.self.now) (sym c.from_residual.ensures)
    (takes_none c.args.self.now taken disk size c.args.len are c.requires.some
    (short c.args.len c.args.self.now c.as_slice.result.now c.first_long.result (c.as_slice.ensures.value ∙ c.self.view_is) c.in_err-at.was c.first_long.ensures))

-- the first that is

first : (len at : ℕ) (items slice : List Gap) → slice ≡ items → Some at ≡ position (has_length len) slice → IsFirstLong len items at
first len at items slice same is = first_at len items at (ap (position (has_length len)) (sym same) ∙ sym is)

found_is : (now items : List Gap) (len at : ℕ) (g : Gap) → items ≡ now → IsFirstLong len items at → g ≡ get_or items at g → Some g.start ≡ first_gap len now
found_is now items len at g view f is = ap (λ (x : Gap). Some x.start) is ∙ (sym (starts_first len items at g f) ∙ ap (first_gap len) view)

enough : (len at : ℕ) (items : List Gap) (g : Gap) → IsFirstLong len items at → g ≡ get_or items at g → len ≤ g.len
enough len at items g f is = leb-true len g.len (ap (has_length len) is ∙ f.long g)

pub returns-then-gap-len-clause-found : goal.returns-then-gap-len-clause-found
returns-then-gap-len-clause-found c =
    found_is c.args.self.now c.self.inside.gaps.items c.args.len c.in_ok-at.at c.index-gap.result.now c.self.view_is (first c.args.len c.in_ok-at.at c.self.inside.gaps.items c.as_slice.result.now c.as_slice.ensures.value c.in_ok-at.ensures) c.index-gap.ensures

pub returns-then-gap-len-clause-left : goal.returns-then-gap-len-clause-left
returns-then-gap-len-clause-left c =
    let f = first c.args.len c.in_ok-at.at c.self.inside.gaps.items c.as_slice.result.now c.as_slice.ensures.value c.in_ok-at.ensures in
    c.remove.ensures.items
    ∙ (sym (is_removed c.args.len c.self.inside.gaps.items c.in_ok-at.at c.index-gap.result.now f (ap (λ (x : Gap). x.len) (sym c.index-gap.ensures) ∙ c.if-gap-len.true)) ∙ ap (without_first c.args.len) c.self.view_is)

pub returns-then-gap-len-clause-first : goal.returns-then-gap-len-clause-first
returns-then-gap-len-clause-first c taken disk size are =
    let g : Gap = c.index-gap.result.now in
    let f = first c.args.len c.in_ok-at.at c.self.inside.gaps.items c.as_slice.result.now c.as_slice.ensures.value c.in_ok-at.ensures in
    subst (λ (l : List Gap). TakesFirst taken disk size c.args.len (Some g.start) l) (sym c.remove.ensures.items)
    (takes_whole c.self.inside.gaps.items taken disk size c.args.len c.in_ok-at.at g (subst (λ (l : List Gap). AreGaps l taken disk size) (sym c.self.view_is) are) c.requires.some f (sym c.index-gap.ensures) c.if-gap-len.true)

pub returns-else-gap-len-clause-found : goal.returns-else-gap-len-clause-found
returns-else-gap-len-clause-found c =
    found_is c.args.self.now c.self.inside.gaps.items c.args.len c.in_ok-at.at c.index-gap.result.now c.self.view_is (first c.args.len c.in_ok-at.at c.self.inside.gaps.items c.as_slice.result.now c.as_slice.ensures.value c.in_ok-at.ensures) c.index-gap.ensures

pub returns-else-gap-len-clause-left : goal.returns-else-gap-len-clause-left
returns-else-gap-len-clause-left c =
    let g : Gap = c.index-gap.result.now in
    let f = first c.args.len c.in_ok-at.at c.self.inside.gaps.items c.as_slice.result.now c.as_slice.ensures.value c.in_ok-at.ensures in
    ap (λ (x : Gap). set c.self.inside.gaps.items c.in_ok-at.at (shorter c.args.len x)) c.index-gap.ensures
    ∙ (sym (is_shortened c.args.len c.self.inside.gaps.items c.in_ok-at.at g f (λ e. c.if-gap-len.false (ap (λ (x : Gap). x.len) c.index-gap.ensures ∙ e))) ∙ ap (without_first c.args.len) c.self.view_is)

pub returns-else-gap-len-clause-first : goal.returns-else-gap-len-clause-first
returns-else-gap-len-clause-first c taken disk size are =
    let g : Gap = c.index-gap.result.now in
    let f = first c.args.len c.in_ok-at.at c.self.inside.gaps.items c.as_slice.result.now c.as_slice.ensures.value c.in_ok-at.ensures in
    let most : c.args.len ≤ g.len = enough c.args.len c.in_ok-at.at c.self.inside.gaps.items g f c.index-gap.ensures in
    takes_part c.self.inside.gaps.items taken disk size c.args.len c.in_ok-at.at g (subst (λ (l : List Gap). AreGaps l taken disk size) (sym c.self.view_is) are) c.requires.some f (sym c.index-gap.ensures) (let ne = c.if-gap-len.false in omega arith)

-- no number is too great

pub overflow_sub-gap : goal.overflow_sub-gap
overflow_sub-gap c =
    let f = first c.args.len c.in_ok-at.at c.self.inside.gaps.items c.as_slice.result.now c.as_slice.ensures.value c.in_ok-at.ensures in
    let most : c.args.len ≤ c.index-gap.result.now.len = enough c.args.len c.in_ok-at.at c.self.inside.gaps.items c.index-gap.result.now f c.index-gap.ensures in
    omega arith

ends_below : (at : ℕ) (items : List Gap) (g : Gap) → All (λ x. x.start + x.len < 2 ^ 64) items → at < length items → g ≡ get_or items at g → g.start + g.len < 2 ^ 64
ends_below at items g all lt is = subst (λ (x : Gap). x.start + x.len < 2 ^ 64) (sym is) (all at g lt)

pub overflow_add-gap : goal.overflow_add-gap
overflow_add-gap c =
    let g : Gap = c.index-gap.result.now in
    let f = first c.args.len c.in_ok-at.at c.self.inside.gaps.items c.as_slice.result.now c.as_slice.ensures.value c.in_ok-at.ensures in
    let most : c.args.len ≤ g.len = enough c.args.len c.in_ok-at.at c.self.inside.gaps.items g f c.index-gap.ensures in
    let ends : g.start + g.len < 2 ^ 64 = ends_below c.in_ok-at.at c.self.inside.gaps.items g c.self.invariant f.within c.index-gap.ensures in
    omega arith

pub invariant_of-self-else-gap-len : goal.invariant_of-self-else-gap-len
invariant_of-self-else-gap-len c =
    let g : Gap = c.index-gap.result.now in
    let f = first c.args.len c.in_ok-at.at c.self.inside.gaps.items c.as_slice.result.now c.as_slice.ensures.value c.in_ok-at.ensures in
    let most : c.args.len ≤ g.len = enough c.args.len c.in_ok-at.at c.self.inside.gaps.items g f c.index-gap.ensures in
    let ends : g.start + g.len < 2 ^ 64 = ends_below c.in_ok-at.at c.self.inside.gaps.items g c.self.invariant f.within c.index-gap.ensures in
    All-set (λ (x : Gap). x.start + x.len < 2 ^ 64) c.self.inside.gaps.items c.in_ok-at.at (shorter c.args.len g) (omega arith) c.self.invariant
