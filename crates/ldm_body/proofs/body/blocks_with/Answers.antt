use Rattle.std.proofs.Common.{◌≡◌, ℕ, List, sym, ap, subst, ◌∙◌, arith}
use Rattle.std.specs.List.{All}
use Rattle.ldm_vmdb.specs.Parts.{IsSized, blocks_needed}
use Rattle.ldm_group.specs.Room.{need_of}
use Rattle.ldm_body.specs.Body.{spellings}
use Rattle.ldm_group.proofs.NeedLaws.{need_of-spellings, sized_spellings}
use Rattle.ldm_body.proofs.body.blocks_with.Goals as goal

-- what is split are the records' own spellings
spelled : (c : goal.After-deref) → c.deref.result.now ≡ spellings c.args.records.now
spelled c = c.deref.ensures.value ∙ c.in_ok-payloads.ensures.spelled

pub blocks_of-requires-clause-sized : goal.blocks_of-requires-clause-sized
blocks_of-requires-clause-sized c = subst (λ (l : List (List ℕ)). All IsSized l) (sym (spelled c)) (sized_spellings c.args.records.now c.requires.each)

pub blocks_of-requires-clause-room : goal.blocks_of-requires-clause-room
blocks_of-requires-clause-room c =
    let need : blocks_needed c.deref.result.now ≡ need_of c.args.records.now = ap blocks_needed (spelled c) ∙ need_of-spellings c.args.records.now in
    omega (arith, need, c.requires.room)

pub returns-clause-holds : goal.returns-clause-holds
returns-clause-holds c = rw (c.deref.ensures.value ∙ c.in_ok-payloads.ensures.spelled) at c.blocks_of.ensures.holds
