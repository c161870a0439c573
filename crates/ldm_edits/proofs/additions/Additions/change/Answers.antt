use Rattle.ldm_edits.specs.Steps.{next_of}
use Rattle.ldm_edits.proofs.additions.Additions.change.Goals as goal

pub returns-in-Create-clause-is : goal.returns-in-Create-clause-is
unfolding next_of
returns-in-Create-clause-is c = rw c.in-Create.is (rw c.as_slice.ensures at c.create.ensures.is)

pub returns-in-Extend-clause-is : goal.returns-in-Extend-clause-is
unfolding next_of
returns-in-Extend-clause-is c =
    rw c.in-Extend.is (rw (c.as_slice-in-Extend-2.ensures, c.as_slice-in-Extend.ensures) at c.extend.ensures.is)

pub returns-in-Delete-clause-is : goal.returns-in-Delete-clause-is
unfolding next_of
returns-in-Delete-clause-is c = rw c.in-Delete.is (rw c.as_slice-in-Delete.ensures at c.delete.ensures.is)
