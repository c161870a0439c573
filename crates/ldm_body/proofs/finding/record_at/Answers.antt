use Rattle.std.proofs.Common.{◌≡◌, ◌+◌, ◌-◌, ◌*◌, ◌<◌, ◌≤◌, ℕ, List, length, replicate, All, Result, Err, sym, ap, subst, ◌∙◌, rules, arith}
use Rattle.std.proofs.lemmas.Bool.{both_ways}
use Rattle.std.proofs.lemmas.List.{get_or_default}
use Rattle.ldm_frags.specs.Blocks.{count, parts}
use Rattle.ldm_written.specs.Written.{IsInUse, IsPlaced}
use Rattle.ldm_vmdb.specs.Parts.{parts_of}
use Rattle.ldm_records.specs.declared.types.Record.{Record}
use Rattle.ldm_records.specs.Plain.{Spells, own_spelling}
use Rattle.ldm_records.specs.Views.{plain_of}
use Rattle.ldm_written.proofs.SpellLaws.{own_spells}
use Rattle.ldm_payloads.specs.Answers.{AnswersRecord}
use Rattle.ldm_payloads.specs.declared.fault.RecordError.{RecordError}
use Rattle.ldm_body.specs.Body.{Stored, placed_of}
use Rattle.ldm_body.specs.Finding.{slots_by, payloads, HasPlaces, slots_in}
use Rattle.ldm_body.proofs.FindLaws.{HeldFirst, held_first, held_few, payload_whole, slots_are_by}
use Rattle.ldm_body.proofs.finding.record_at.Goals as goal

-- the blocks by the heads are those of the record that is held there
slots_are : (blocks : List ℕ) (ss : List Stored) (k many : ℕ) (slots : List ℕ) (h : HeldFirst blocks ss k) → many ≡ parts blocks k → slots ≡ slots_by blocks (k + 4) many → slots ≡ h.s.slots
slots_are blocks ss k many slots h e is = is ∙ ap (slots_by blocks (k + 4)) e ∙ h.slots_are

-- the blocks by the places are those by the heads
by_heads : (blocks places slots : List ℕ) (k many : ℕ) → HasPlaces blocks (count blocks) places → k < count blocks → 1 ≤ many → many ≤ 4 → slots ≡ slots_in places (k + 4) many → slots ≡ slots_by blocks (k + 4) many
by_heads blocks places slots k many has lt some few is = is ∙ slots_are_by blocks places has (k + 4) many (omega arith) (omega (arith, lt)) some few

-- they are in use
used : (blocks : List ℕ) (ss : List Stored) (k : ℕ) (slots : List ℕ) (h : HeldFirst blocks ss k) → slots ≡ h.s.slots → All (IsInUse blocks) slots
used blocks ss k slots h e = subst (λ (l : List ℕ). All (IsInUse blocks) l) (sym e) (λ j d lj. subst (IsInUse blocks) (get_or_default h.s.slots j 0 d lj) (h.placed.within j lj))

-- what they hold spells the record
spelled : (blocks : List ℕ) (ss : List Stored) (k : ℕ) (slots bytes : List ℕ) (h : HeldFirst blocks ss k) → length blocks ≤ 1048576 → slots ≡ h.s.slots → bytes ≡ payloads blocks slots → Spells (plain_of h.s.record_is) bytes
spelled blocks ss k slots bytes h small e is =
    let own : List ℕ = own_spelling (plain_of h.s.record_is) in
    subst (λ (l : List ℕ). Spells (plain_of h.s.record_is) l) (sym (is ∙ ap (payloads blocks) e ∙ payload_whole blocks (placed_of h.s) small h.placed))
    (own_spells (plain_of h.s.record_is) (replicate (112 * parts_of (length own) - length own) 0) h.sound)

pub returns-then-many-gt4 : goal.returns-then-many-gt4
returns-then-many-gt4 c ss sound holds =
    let few = held_few c.args.blocks.now ss c.args.k c.requires.small c.requires.within holds in
    absurd (omega (arith, few, c.requires.many))

pub returns-then-not-are_in_use : goal.returns-then-not-are_in_use
returns-then-not-are_in_use c ss sound holds =
    let h = held_first c.args.blocks.now ss c.args.k c.requires.small c.requires.within sound holds c.requires.first (omega (arith, c.requires.many, c.requires.some)) in
    let e = slots_are c.args.blocks.now ss c.args.k c.args.many c.in_ok-slots.slots h c.requires.many (by_heads c.args.blocks.now c.args.places.now c.in_ok-slots.slots c.args.k c.args.many c.requires.places c.requires.within c.requires.some (omega arith) c.in_ok-slots.ensures) in
    both_ways c.are_in_use.result c.if-not-are_in_use.true (c.are_in_use.ensures.1 (used c.args.blocks.now ss c.args.k c.in_ok-slots.slots h e))

pub returns-in-Err-Fault : goal.returns-in-Err-Fault
returns-in-Err-Fault c ss sound holds =
    let h = held_first c.args.blocks.now ss c.args.k c.requires.small c.requires.within sound holds c.requires.first (omega (arith, c.requires.many, c.requires.some)) in
    let e = slots_are c.args.blocks.now ss c.args.k c.args.many c.in_ok-slots.slots h c.requires.many (by_heads c.args.blocks.now c.args.places.now c.in_ok-slots.slots c.args.k c.args.many c.requires.places c.requires.within c.requires.some (omega arith) c.in_ok-slots.ensures) in
    let spells = spelled c.args.blocks.now ss c.args.k c.in_ok-slots.slots c.as_slice.result.now h c.requires.small e (c.as_slice.ensures ∙ c.in_ok-payload.ensures) in
    subst (λ (x : RecordError). AnswersRecord (Err x) h.s.record_is) c.in-Err-Fault.field-0-is
    (subst (λ (x : Result Record RecordError). AnswersRecord x h.s.record_is) c.in-Err-Fault.is (c.read_record.ensures.only h.s.record_is spells))

pub returns-then-not-is_written : goal.returns-then-not-is_written
returns-then-not-is_written c ss sound holds =
    let h = held_first c.args.blocks.now ss c.args.k c.requires.small c.requires.within sound holds c.requires.first (omega (arith, c.requires.many, c.requires.some)) in
    let e = slots_are c.args.blocks.now ss c.args.k c.args.many c.in_ok-slots.slots h c.requires.many (by_heads c.args.blocks.now c.args.places.now c.in_ok-slots.slots c.args.k c.args.many c.requires.places c.requires.within c.requires.some (omega arith) c.in_ok-slots.ensures) in
    let spells = spelled c.args.blocks.now ss c.args.k c.in_ok-slots.slots c.as_slice.result.now h c.requires.small e (c.as_slice.ensures ∙ c.in_ok-payload.ensures) in
    let is : c.in-Ok.content ≡ h.s.record_is = subst (λ (x : Result Record RecordError). AnswersRecord x h.s.record_is) c.in-Ok.is (c.read_record.ensures.only h.s.record_is spells) in
    let own : c.as_slice-2.result.now ≡ own_spelling (plain_of h.s.record_is) = c.as_slice-2.ensures ∙ c.in_ok-own.ensures.own ∙ ap (λ (r : Record). own_spelling (plain_of r)) is in
    both_ways c.is_written.result c.if-not-is_written.true (c.is_written.ensures.1
    (subst (λ (s : List ℕ). IsPlaced c.args.blocks.now (record { payload = c.as_slice-2.result.now; slots = s })) (sym e)
    (subst (λ (p : List ℕ). IsPlaced c.args.blocks.now (record { payload = p; slots = h.s.slots })) (sym own) h.placed)))

pub returns : goal.returns
returns c =
    let slots = by_heads c.args.blocks.now c.args.places.now c.in_ok-slots.slots c.args.k c.args.many c.requires.places c.requires.within c.requires.some (omega arith) c.in_ok-slots.ensures in
    let many : c.args.many ≡ parts c.args.blocks.now (c.args.k + 4 - 4) = c.requires.many ∙ ap (parts c.args.blocks.now) (omega arith) in
    record { first = c.requires.first; some = omega arith; slots_are = rw (← many) slots; placed = search rules; sound = search rules }
