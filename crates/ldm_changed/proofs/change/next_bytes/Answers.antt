use Rattle.std.proofs.Common.{◌≡◌, ◌-◌, ◌*◌, ◌++◌, ℕ, List, length, take, drop, map, All, sym, ap, subst, ◌∙◌, arith, length-drop}
use Rattle.std.proofs.lemmas.List.{take_rest}
use Rattle.ldm_records.specs.declared.types.Record.{Record}
use Rattle.ldm_records.specs.Plain.{IsRecord}
use Rattle.ldm_records.specs.Views.{plain_of}
use Rattle.ldm_written.specs.Written.{Holds}
use Rattle.ldm_vmdb.specs.Sectors.{last_of}
use Rattle.ldm_group.specs.Order.{Rising}
use Rattle.ldm_group.specs.Room.{room_of}
use Rattle.ldm_copy.specs.Copy.{header_sector}
use Rattle.ldm_body.specs.Body.{placed_of, stored_at, Store}
use Rattle.ldm_body.specs.Table.{IsTabled}
use Rattle.ldm_changed.specs.Change.{IsNextBody}
use Rattle.ldm_changed.proofs.NextLaws.{same_records, next_is}
use Rattle.ldm_changed.proofs.change.next_bytes.Goals as goal
use Rattle.ldm_group.proofs.NeedLaws.{few_records}

-- the records of the table are those of the old database
records_are : (body : List ℕ) (table : List (List ℕ)) (records : List Record) (tabled : IsTabled body table) → Rising records → Store (drop 512 body) records → tabled.db.records ≡ records
records_are body table records tabled up store = same_records tabled.db body records tabled.body tabled.small up store

-- its last VBLK sequence is that of the body
last_is : (body : List ℕ) (table : List (List ℕ)) (tabled : IsTabled body table) → tabled.db.header.last ≡ last_of (header_sector body)
last_is body table tabled = tabled.body.is.header_is.last_is

-- the old body has as many blocks as its last VBLK sequence says
size_is : (body : List ℕ) (table : List (List ℕ)) (tabled : IsTabled body table) → length (drop 512 body) ≡ 128 * room_of (last_of (header_sector body))
size_is body table tabled = (let last = last_is body table tabled in let size = tabled.body.is.size in let low = tabled.body.low in omega (arith, length-drop 512 body))

pub next_blocks-requires-clause-one_each : goal.next_blocks-requires-clause-one_each
next_blocks-requires-clause-one_each c =
    let same = records_are c.args.body.now c.table-slots.result.now c.args.old.now.records c.table-slots.ensures c.as_slice-before.ensures.rising c.requires.holds in
    c.table-slots.ensures.one_each ∙ ap (λ (l : List Record). length l) same

pub next_blocks-requires-clause-holds : goal.next_blocks-requires-clause-holds
next_blocks-requires-clause-holds c =
    let same = records_are c.args.body.now c.table-slots.result.now c.args.old.now.records c.table-slots.ensures c.as_slice-before.ensures.rising c.requires.holds in
    let bytes : take (length c.as_slice-bytes.result.now - 512) (drop 512 c.as_slice-bytes.result.now) ≡ drop 512 c.args.body.now = take_rest c.as_slice-bytes.result.now 512 ∙ ap (λ (l : List ℕ). drop 512 l) c.as_slice-bytes.ensures.value in
    subst (λ (l : List ℕ). Holds l (map placed_of (stored_at c.args.old.now.records c.table-slots.result.now))) (sym bytes)
    (subst (λ (l : List Record). Holds (drop 512 c.args.body.now) (map placed_of (stored_at l c.table-slots.result.now))) same c.table-slots.ensures.holds)

pub next_blocks-requires-clause-sound : goal.next_blocks-requires-clause-sound
next_blocks-requires-clause-sound c =
    let same = records_are c.args.body.now c.table-slots.result.now c.args.old.now.records c.table-slots.ensures c.as_slice-before.ensures.rising c.requires.holds in
    subst (λ (l : List Record). All (λ r. IsRecord (plain_of r)) l) same c.table-slots.ensures.sound

pub next_blocks-requires-clause-more : goal.next_blocks-requires-clause-more
next_blocks-requires-clause-more c =
    let bytes = take_rest c.as_slice-bytes.result.now 512 ∙ ap (λ (l : List ℕ). drop 512 l) c.as_slice-bytes.ensures.value in
    let size = size_is c.args.body.now c.table-slots.result.now c.table-slots.ensures in
    omega (arith, ap (λ (l : List ℕ). length l) bytes, size, c.requires.last, c.room-room.ensures)

pub next_blocks-requires-clause-room : goal.next_blocks-requires-clause-room
next_blocks-requires-clause-room c = (let need = c.requires.room.need in let room = c.room-room.ensures in omega arith)

pub counts_of-requires : goal.counts_of-requires
counts_of-requires c = omega (arith, ap (λ (l : List Record). length l) c.as_slice-records.ensures.all, few_records c.args.new.now.records, c.requires.room.need, c.requires.high)

pub returns-clause-few : goal.returns-clause-few
returns-clause-few c =
    let bytes = take_rest c.as_slice-bytes.result.now 512 ∙ ap (λ (l : List ℕ). drop 512 l) c.as_slice-bytes.ensures.value in
    let size = size_is c.args.body.now c.table-slots.result.now c.table-slots.ensures in
    let low = c.table-slots.ensures.body.low in
    let last = last_is c.args.body.now c.table-slots.result.now c.table-slots.ensures in
    omega (arith, ap (λ (l : List ℕ). length l) bytes, size, low, last, c.requires.last, c.room-room.ensures, c.in_ok-blocks.ensures.few)

pub returns-clause-next : goal.returns-clause-next
returns-clause-next c =
    let tabled = c.table-slots.ensures in
    let header = c.header-header.ensures in
    let blocks = c.in_ok-blocks.ensures in
    let last = last_is c.args.body.now c.table-slots.result.now tabled in
    subst (λ (l : List ℕ). IsNextBody c.args.body.now c.args.new.now l c.in_ok-blocks.numbers
    c.in_ok-blocks.table.items)
    (sym (c.in_ok-bytes.ensures ∙ ap (λ (l : List ℕ). c.write_header.new.out ++ l)
    c.as_slice.ensures))
    (next_is c.args.body.now tabled.db.header.last c.args.new.now c.write_header.new.out
    c.in_ok-blocks.blocks c.in_ok-blocks.numbers c.in_ok-blocks.table.items
    tabled.body.is.size tabled.body.low (omega (arith, last, c.requires.last)) c.requires.high
    c.as_slice-records.ensures.rising (omega (arith, c.write_header.auto.out))
    (rw (
      header,
      c.counts_of.ensures,
      c.as_slice-records.ensures.all,
    ) at c.write_header.ensures.bytes)
    (rw header at c.write_header.ensures.reads_back) (rw header at c.write_header.ensures.no_fault)
    (blocks.size ∙ ap (λ (n : ℕ). 128 * n) c.room-room.ensures) blocks.store
    (rw (
      take_rest c.as_slice-bytes.result.now 512,
      c.as_slice-bytes.ensures.value,
    ) at blocks.changed) blocks.one_each blocks.holds)
