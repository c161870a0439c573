use Rattle.std.proofs.Common.{ℕ, List, sym, subst, ◌∙◌}
use Rattle.std.proofs.lemmas.List.{take_rest}
use Rattle.ldm_group.specs.Order.{Rising}
use Rattle.ldm_body.specs.Body.{IsBodyOf}
use Rattle.ldm_body.specs.Table.{IsTabled}
use Rattle.ldm_body.proofs.BodyLaws.{read_tabled}
use Rattle.ldm_body.proofs.bodies.body_in.Goals as goal

pub returns-then-not-branch-clause-none : goal.returns-then-not-branch-clause-none
returns-then-not-branch-clause-none c none h faultless header same store =
    (rw (c.first_sector-sector.ensures, c.header.ensures) at (c.in_ok-reads_as.ensures.no
    c.if-not-branch.true)) h faultless header same

pub table_of-requires-clause-rising : goal.table_of-requires-clause-rising
table_of-requires-clause-rising c = subst Rising (sym c.as_slice.ensures.all) c.as_slice.ensures.rising

pub returns-in_default-clause-none : goal.returns-in_default-clause-none
returns-in_default-clause-none c none h faultless header same =
    rw (take_rest c.args.bytes.now 512, c.as_slice.ensures.all) at (c.in_ok-table.ensures.none
    c.in_default.is)

pub new-requires : goal.new-requires
new-requires c =
    let read = rw (c.first_sector-sector.ensures, c.header.ensures) at (c.in_ok-reads_as.ensures.yes
    c.if-not-branch.false) in
    let held = rw (
      c.in-Some.is,
      take_rest c.args.bytes.now 512,
      c.as_slice.ensures.all,
    ) at c.in_ok-table.ensures.held in
    subst (λ (l : List ℕ). IsTabled l c.in-Some.table.items) (sym c.in_ok-bytes.ensures)
    (read_tabled c.args.db.now read.0 c.args.bytes.now c.args.area_sectors c.in-Some.table.items
    c.requires.size c.requires.low c.requires.high c.as_slice.ensures.rising (
      read.1,
      read.2,
      read.3,
    ) held).0

pub returns-clause-core : goal.returns-clause-core
returns-clause-core c =
    let read = rw (c.first_sector-sector.ensures, c.header.ensures) at (c.in_ok-reads_as.ensures.yes
    c.if-not-branch.false) in
    let held = rw (
      c.in-Some.is,
      take_rest c.args.bytes.now 512,
      c.as_slice.ensures.all,
    ) at c.in_ok-table.ensures.held in
    let it = read_tabled c.args.db.now read.0 c.args.bytes.now c.args.area_sectors
    c.in-Some.table.items c.requires.size c.requires.low c.requires.high c.as_slice.ensures.rising
    (read.1, read.2, read.3) held in (
      it.0.db,
      it.1,
      subst (λ (l : List ℕ). IsBodyOf it.0.db l)
          (sym (c.new.ensures ∙ c.in_ok-bytes.ensures)) it.0.body,
    )
