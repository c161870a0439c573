use Rattle.std.proofs.Common.{List, take, subst, ap, ◌∙◌}
use Rattle.std.specs.List.{filter_map}
use Rattle.ldm_records.specs.declared.types.Record.{Record}
use Rattle.ldm_rules.specs.Rules.{group_id, group_fault}
use Rattle.ldm_rules.proofs.FirstLaws.{Seen, other_seen, first_seen, second_seen}
use Rattle.ldm_rules.proofs.single.not_one_group.Goals as goal
use Rattle.ldm_rules.proofs.single.not_one_group.Goals.{in-Group+else-found, in_default}

pub returns-then-found : goal.returns-then-found
returns-then-found c =
    let records = c.as_slice-r-items.result.now in
    second_seen records c.loop-r.r-index c.r-item.result c.loop-r-test.true c.r-item.is c.in-Group.g c.in-Group.is
    (subst (λ b. Seen b (filter_map group_id (take c.loop-r.r-index records))) c.if-found.true c.loop-r.invariant)
    ∙ ap (λ (xs : List Record). group_fault (filter_map group_id xs)) c.as_slice-r-items.ensures.all

pub loop-r-preserved : goal.loop-r-preserved
loop-r-preserved c =
    let records = c.as_slice-r-items.result.now in
    let at = c.loop-r.r-index in
    elim c.match-r.branch [
      | in-Group+else-found w ↦ rw w.found-is
          (first_seen records at c.r-item.result c.loop-r-test.true c.r-item.is w.in-Group.g w.in-Group.is
          (subst (λ b. Seen b (filter_map group_id (take at records))) w.if-found.false c.loop-r.invariant))
      | in_default w ↦ rw w.found-is
          (other_seen records at c.r-item.result c.loop-r-test.true c.r-item.is c.loop-r.found w.in_default.not-Group c.loop-r.invariant)
    ]
