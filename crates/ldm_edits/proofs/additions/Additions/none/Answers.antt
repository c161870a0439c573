use Rattle.ldm_edits.specs.declared.additions.Additions.{Additions}
use Rattle.ldm_edits.proofs.AdditionLaws.{none_added, with_none}
use Rattle.ldm_edits.proofs.additions.Additions.none.Goals as goal

pub returns-clause-are : goal.returns-clause-are
returns-clause-are c =
    none_added c.args.db.now c.as_slice-rising.ensures.rising _ c.new.ensures.items (c.new-2.ensures _) c.need.ensures c.max_id.ensures c.last_of.ensures.low

pub returns-clause-whole : goal.returns-clause-whole
returns-clause-whole c =
    let none : Additions =
    record { records = c.new.result; maps = c.new-2.result; need = c.need.result; max_id = c.max_id.result; last = c.last_of.result } in
    with_none c.args.db.now c.as_slice-rising.ensures.rising none c.new.ensures.items c.last_of.ensures.is
