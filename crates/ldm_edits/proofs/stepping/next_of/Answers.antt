use Rattle.ldm_edits.specs.Steps.{next_of}
use Rattle.ldm_edits.proofs.stepping.next_of.Goals as goal

pub returns-in-Create : goal.returns-in-Create
unfolding next_of
returns-in-Create c = rw c.in-Create.is (rw c.as_slice.ensures at c.create.ensures)

pub returns-in-Extend : goal.returns-in-Extend
unfolding next_of
returns-in-Extend c = rw c.in-Extend.is (rw (c.as_slice-in-Extend-2.ensures, c.as_slice-in-Extend.ensures) at c.extend.ensures)

pub returns-in-Delete : goal.returns-in-Delete
unfolding next_of
returns-in-Delete c = rw c.in-Delete.is (rw c.as_slice-in-Delete.ensures at c.delete.ensures)
