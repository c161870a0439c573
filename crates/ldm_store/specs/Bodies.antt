-- The bytes with which the copies begin: whether all begin with one body, and which of them do.
use Rattle.std.specs.Prelude.{◌≡◌, ◌≢◌, ◌⊎◌, ℕ, ◌+◌, ◌<◌, List, length, slice_index, slice_get, Option, Some, None, false, true}
use Rattle.ldm_host.specs.Seen.{image}
use Rattle.ldm_label.specs.declared.Label.{Label}
use Rattle.ldm_group.specs.Database.{Database}
use Rattle.ldm_copy.specs.Copy.{gate_at}
use Rattle.ldm_body.specs.Body.{IsSomeBody}
use Rattle.ldm_body.specs.Table.{body_bytes, IsNoBody}
use Rattle.ldm_changed.specs.Change.{Changed, ChangesFrom}
use Rattle.ldm_changed.specs.Plan.{touched_blocks, added_blocks}
use Rattle.ldm_changed.specs.declared.nexts.Next.{Next}
use Rattle.ldm_changed.specs.declared.nexts.Next.TheVariants as nexts
use Rattle.ldm_copy.specs.declared.found.Found.{Found}
use Rattle.ldm_copy.specs.declared.notes.Note.{Note}
use Rattle.ldm_store.specs.Healing.{is_behind}

-- the copy on an image begins with these bytes, the first of which is its gate
abbrev pub BeginsWith : Label → List ℕ → List ℕ → Type 0
BeginsWith label body image = (k : ℕ) → k < length body → slice_index image (gate_at label + k) ≡ slice_index body k

-- each copy begins with these bytes
abbrev pub AllBegin : List Label → List (List ℕ) → List ℕ → Type 0
AllBegin labels images body = (disk : ℕ) (label : Label) → slice_get labels disk ≡ Some label → BeginsWith label body (image images disk)

-- All copies are open, their bytes are the same up to the last block in use, and each block in use is a written one, each
-- record in its own spelling: they begin with one body.
abbrev pub IsTidy : List Label → List (List ℕ) → Type 0
IsTidy labels images = (body : List ℕ) × IsSomeBody body × AllBegin labels images body

-- the copies are tidy with this body, or where there is none aren't tidy
abbrev pub HoldsBody : Option (List ℕ) → List Label → List (List ℕ) → Type 0
HoldsBody None labels images = IsTidy labels images → ⊥
HoldsBody (Some body) labels images = IsSomeBody body × AllBegin labels images body

-- ---- the copies that are neither closed nor of a lower sequence than the group

-- the copies of a group that was found begin with these bytes, but for those that are behind
abbrev pub IsBegunBut : Found → List (List ℕ) → List ℕ → Type 0
IsBegunBut found images body =
    (disk : ℕ) (label : Label) (note : Note) → slice_get found.labels disk ≡ Some label → slice_get found.notes disk ≡ Some note
    → is_behind found.db.header.seq note ≡ false → BeginsWith label body (image images disk)

-- they are tidy among themselves
abbrev pub IsTidyBut : Found → List (List ℕ) → Type 0
IsTidyBut found images = (body : List ℕ) × IsSomeBody body × IsBegunBut found images body

-- no body of the database is there, or another one
abbrev pub LacksBody : Database → Label → List ℕ → List ℕ → Type 0
LacksBody db label body image = IsNoBody db label.area_sectors (body_bytes db label image) ⊎ (body ≢ body_bytes db label image)

-- the copy on a disk, unless it is behind, has the body
abbrev pub KeepsBody : ℕ → List Label → List Note → Database → List ℕ → List (List ℕ) → ℕ → Type 0
KeepsBody seq labels notes db body images disk =
    (label : Label) (note : Note) → slice_get labels disk ≡ Some label → slice_get notes disk ≡ Some note → is_behind seq note ≡ false
    → body ≡ body_bytes db label (image images disk)

-- the copy on a disk isn't behind, and has no body of the database or another one
pub record LosesBody (seq : ℕ) (labels : List Label) (notes : List Note) (db : Database) (body : List ℕ) (images : List (List ℕ)) : Type 0 where
  pub disk : ℕ
  pub label : Label
  pub note : Note
  pub label_is : slice_get labels disk ≡ Some label
  pub note_is : slice_get notes disk ≡ Some note
  pub ahead : is_behind seq note ≡ false
  pub lacks : LacksBody db label body (image images disk)

-- a copy that isn't behind, and one that hasn't the bytes of the first, or no body
pub record IsAlone (seq : ℕ) (labels : List Label) (notes : List Note) (db : Database) (images : List (List ℕ)) : Type 0 where
  pub first : ℕ
  pub label : Label
  pub note : Note
  pub label_is : slice_get labels first ≡ Some label
  pub note_is : slice_get notes first ≡ Some note
  pub ahead : is_behind seq note ≡ false
  pub loses : LosesBody seq labels notes db (body_bytes db label (image images first)) images

-- the copies that aren't behind share no body: there is none of them, or they differ
abbrev pub ShareNone : ℕ → List Label → List Note → Database → List (List ℕ) → Type 0
ShareNone seq labels notes db images =
    ((disk : ℕ) (note : Note) → slice_get notes disk ≡ Some note → is_behind seq note ≡ true) ⊎ IsAlone seq labels notes db images

-- ---- what takes the place of the copies

-- what changes changes from this body
abbrev pub IsFrom : Option (List ℕ) → Next → Type 0
IsFrom body next = (change : Changed) → next ≡ nexts.Changed change → (old : List ℕ) × (body ≡ Some old) × ChangesFrom old change

-- how many blocks change at most where a body of one group changes to one of another: so many as the records take that only one of both
-- has, and those that the other has more
abbrev pub changed_blocks : Database → Database → ℕ
changed_blocks old new = touched_blocks old.records new.records + added_blocks old.header.last new.header.last
