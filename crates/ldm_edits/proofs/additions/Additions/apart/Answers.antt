use Rattle.std.proofs.Common.{◌≡◌, ap, true, filter}
use Rattle.ldm_edits.proofs.Common.{Header}
use Rattle.ldm_group.proofs.InOrder.{never_twice}
use Rattle.ldm_edits.specs.declared.additions.Additions.{Additions}
use Rattle.ldm_edits.specs.Replacing.{stands_in}
use Rattle.ldm_edits.proofs.ApartLaws.{apart_additions, apart_front, apart_whole, heads_rise}
use Rattle.ldm_edits.proofs.additions.Additions.apart.Goals.{In_ok-front}
use Rattle.ldm_edits.proofs.additions.Additions.apart.Goals as goal

heads : (c : In_ok-front) → c.in_ok-front.front.items ≡ filter (stands_in true) c.args.db.now.records
heads c = rw c.as_slice.ensures.all at c.in_ok-front.ensures

pub unreachable-requires : goal.unreachable-requires
unreachable-requires c =
    let rising = heads_rise true c.args.db.now.records c.as_slice.ensures.rising in
    never_twice c.in_ok-front.front.items _ _ (rw (heads (goal.at.unreachable-requires c).In_ok-front) rising)
    (rw c.in-Err-SameId.field-0-is at c.in-Err-SameId.ensures)

pub returns-in-Ok : goal.returns-in-Ok
returns-in-Ok c =
    let up = c.as_slice.ensures.rising in
    let is = rw (heads (goal.at.returns-in-Ok c).In_ok-front) at c.in-Ok.ensures in
    let rest = rw c.as_slice-2.ensures.all at c.in_ok-records.ensures in
    let a : Additions =
    record { records = c.in_ok-records.records; maps = c.new-in-Ok.result; need = c.need.result; max_id = c.max_id.result; last = c.last_of.result } in
    let header = rw c.header.ensures at c.in_ok-header.ensures in
    record {
      are = apart_additions c.args.db.now c.in-Ok.front a _ up is rest (c.new-in-Ok.ensures _) c.need.ensures c.max_id.ensures c.last_of.ensures.low;
      front = apart_front c.args.db.now c.in-Ok.front a _ up is rest;
      is = apart_whole c.args.db.now c.in-Ok.front a _ up is rest c.header-2.result.now.seq header
          (ap (λ (h : Header). h.seq) c.header-2.ensures) c.last_of.ensures.is;
    }
