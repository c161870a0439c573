use Rattle.std.proofs.Common.{◌∙◌, sym, true, false, append-nil}
use Rattle.ldm_edits.specs.Replacing.{stands_in}
use Rattle.ldm_edits.proofs.CommandLaws.{walk_more}
use Rattle.ldm_edits.proofs.additions.copies_where.Goals as goal
use Rattle.ldm_edits.proofs.additions.copies_where.Goals.{then-stands_in+in_ok-clone_in+in_ok-push, else-stands_in}

pub loop-r-preserved : goal.loop-r-preserved
loop-r-preserved c =
    let walked = walk_more (stands_in c.args.front) c.args.records.now c.loop-r.r-index c.r-item.result in
    elim c.if-stands_in.branch [
      | then-stands_in+in_ok-clone_in+in_ok-push w ↦
          rw (w.copies-is, w.in_ok-push.ensures.items, c.loop-r.invariant, w.in_ok-clone_in.ensures)
          (sym (walked true c.loop-r-test.true c.r-item.is (sym c.stands_in.ensures ∙ w.if-stands_in.true)))
      | else-stands_in w ↦ rw (w.copies-is, c.loop-r.invariant)
          (sym (walked false c.loop-r-test.true c.r-item.is (sym c.stands_in.ensures ∙ w.if-stands_in.false) ∙ append-nil _))
    ]
