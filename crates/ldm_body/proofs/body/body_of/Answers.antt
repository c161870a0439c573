use Rattle.std.proofs.Common.{◌≡◌, ℕ, ◌*◌, Result, Ok, Err, IfOk, List, ◌++◌, length, sym, ap, subst, ◌∙◌, arith}
use Rattle.std.specs.List.{All}
use Rattle.ldm_records.specs.declared.types.Record.{Record}
use Rattle.ldm_group.specs.Room.{IsFitting, need_of}
use Rattle.ldm_body.specs.Body.{IsBodyOf, IsMadeOf}
use Rattle.ldm_body.proofs.BodyLaws.{store_of, body_with, made_of}
use Rattle.ldm_body.proofs.body.body_of.Goals as goal
use Rattle.ldm_group.proofs.NeedLaws.{few_records}

-- a body of these bytes, of which a fact holds
if_ok_along : {E : Type 0} (r : Result (List ℕ) E) (P : List ℕ → Type 0) (bytes : List ℕ) → IfOk r (λ v. v ≡ bytes) → P bytes → IfOk r P
if_ok_along (Ok v) P bytes e p = subst P (sym e) p
if_ok_along (Err x) P bytes e p = tt

pub blocks_with-requires-clause-each : goal.blocks_with-requires-clause-each
blocks_with-requires-clause-each c = subst (λ (l : List Record). All IsFitting l) (sym c.as_slice-records.ensures.all) c.requires.room.each

pub blocks_with-requires-clause-room : goal.blocks_with-requires-clause-room
blocks_with-requires-clause-room c = omega (arith, ap need_of c.as_slice-records.ensures.all, c.requires.room.need, c.room.ensures)

pub counts_of-requires : goal.counts_of-requires
counts_of-requires c = omega (arith, ap length c.as_slice-records.ensures.all, few_records c.args.db.now.records, c.requires.room.need, c.requires.high)

pub with_table-requires-clause-body : goal.with_table-requires-clause-body
with_table-requires-clause-body c =
    let header = c.header-header.ensures in
    let records = c.as_slice-records.ensures.all in
    subst (IsBodyOf c.args.db.now)
    (sym (c.in_ok-bytes.ensures ∙ ap (λ (l : List ℕ). c.write_header.new.out ++ l)
    c.as_slice.ensures))
    (body_with c.write_header.new.out c.in_ok-blocks.blocks (omega (arith, c.write_header.auto.out))
    c.args.db.now (rw header at c.write_header.ensures.reads_back)
    (rw header at c.write_header.ensures.no_fault)
    (store_of c.in_ok-blocks.blocks c.args.db.now.records
    (rw records at c.in_ok-blocks.ensures.sound) (rw records at c.in_ok-blocks.ensures.holds))
    (c.in_ok-blocks.ensures.size ∙ ap (λ (n : ℕ). 128 * n) c.room.ensures) c.requires.low
    c.as_slice-records.ensures.rising)

pub returns-clause-made : goal.returns-clause-made
returns-clause-made c =
    let records = c.as_slice-records.ensures.all in
    if_ok_along c.with_table.result (IsMadeOf c.args.db.now) c.in_ok-bytes.bytes
    c.with_table.ensures.bytes
    (subst (IsMadeOf c.args.db.now)
    (sym (c.in_ok-bytes.ensures ∙ ap (λ (l : List ℕ). c.write_header.new.out ++ l)
    c.as_slice.ensures))
    (made_of c.args.db.now c.write_header.new.out c.in_ok-blocks.blocks
    (omega (arith, c.write_header.auto.out))
    (rw (c.header-header.ensures, c.counts_of.ensures, records) at c.write_header.ensures.bytes)
    (rw records at c.in_ok-blocks.ensures.holds)))
