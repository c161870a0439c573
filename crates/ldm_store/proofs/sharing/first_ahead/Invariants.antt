use Rattle.std.proofs.Common.{◌≡◌, ◌<◌, ℕ, true, slice_get, Some}
use Rattle.ldm_copy.specs.declared.notes.Note.{Note}
use Rattle.ldm_store.specs.Healing.{is_behind}
use Rattle.ldm_store.proofs.sharing.first_ahead.Given as goal

abbrev pub invariant-loop-disk : goal.invariant-loop-disk
invariant-loop-disk l = (k : ℕ) (note : Note) → k < l.disk → slice_get l.notes k ≡ Some note → is_behind l.seq note ≡ true
