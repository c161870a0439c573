-- A batch that is open, as contracts see it.
use Rattle.std.specs.Prelude.{Bool}
use Rattle.ldm_group.specs.Database.{Database}

-- a batch that is open: the group with what it holds, which has the group's sequence, and whether it has held a command
pub record Drafted : Type 0 where
  pub db : Database
  pub filled : Bool
