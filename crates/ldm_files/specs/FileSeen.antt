-- A host over files tells how long they are and what was counted, and nothing else.
use Rattle.std.specs.Prelude.{◌≡◌, ℕ, ◌<◌, List, [], false, length, map, refl}
use Rattle.std.proofs.Common.{sym, ◌∙◌}
use Rattle.std.proofs.lemmas.List.{length-map}
use Rattle.ldm_host.specs.Seen.{Seen, Leaves}

abbrev pub file_seen : List ℕ → ℕ → ℕ → List ℕ → Seen
file_seen sizes disk_faults talk_faults wrote = record {
  sizes = sizes;
  content = [];
  may_leave = λ disk c. ⊥;
  clock = 0;
  left_since = λ t images said. (length images ≡ length sizes) × ((disk : ℕ) → disk < length sizes → ⊥) × (said ≡ []);
  said = [];
  heard = record { bytes = []; ended = false };
  input = [];
  disk_faults = disk_faults;
  talk_faults = talk_faults;
  failed = [];
  wrote = wrote;
}

pub file_counts_each : {A : Type 0} (sectors : A → ℕ) (images : List A) (wrote : List ℕ) → length wrote ≡ length images → length wrote ≡ length (map sectors images)
file_counts_each sectors images wrote counted = counted ∙ sym (length-map images sectors)

pub file_counts_now : (sizes : List ℕ) (disk_faults talk_faults : ℕ) (wrote : List ℕ) (t : ℕ) (images : List (List ℕ))
    → Leaves (file_seen sizes disk_faults talk_faults wrote) images → (file_seen sizes disk_faults talk_faults wrote).left_since t images []
file_counts_now sizes disk_faults talk_faults wrote t images left = (left.one_each, left.each, refl)

pub file_only_now : (sizes : List ℕ) (disk_faults talk_faults : ℕ) (wrote : List ℕ) (t : ℕ) (images : List (List ℕ)) (said : List ℕ)
    → (file_seen sizes disk_faults talk_faults wrote).left_since t images said → Leaves (file_seen sizes disk_faults talk_faults wrote) images × (said ≡ [])
file_only_now sizes disk_faults talk_faults wrote t images said left = (record { one_each = left.0; each = left.1 }, left.2)
