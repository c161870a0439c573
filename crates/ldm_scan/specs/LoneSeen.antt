-- A disk of a host alone: what is seen of it. It is the only disk, and nothing is pending on it.
use Rattle.std.specs.Prelude.{◌≡◌, ℕ, List, [], ◌∷◌, length, map, slice_index}
use Rattle.ldm_host.specs.Seen.{Seen, image}
use Rattle.ldm_host.specs.declared.host.DiskRange.{DiskRange}

-- this is what the disk holds, where the host tells it
abbrev pub IsLoneImage : Type 0 → Seen → ℕ → ℕ → List ℕ → Type 0
IsLoneImage tells host disk number c = tells × (number ≡ 0) × (c ≡ image host.content disk)

-- this is what the disk holds, at a moment since a time when these bytes were said
pub record IsHeldSince (tells : Type 0) (host : Seen) (disk t : ℕ) (images : List (List ℕ)) (said : List ℕ) : Type 0 where
  pub moment : (left : List (List ℕ)) × host.left_since t left said
  pub one_image : length images ≡ 1
  pub held : IsLoneImage tells host disk 0 (image images 0)

-- a read of a disk that is the first one
abbrev pub as_first : DiskRange → DiskRange
as_first read = record { disk = 0; at = read.at; length = read.length }

-- The disk alone. So many calls of it failed, and it was handed so many bytes.
abbrev pub lone_seen : Type 0 → ℕ → ℕ → ℕ → Seen → Seen
lone_seen tells disk wrote faults host = record {
  sizes = slice_index host.sizes disk ∷ [];
  content = image host.content disk ∷ [];
  may_leave = IsLoneImage tells host disk;
  clock = host.clock;
  left_since = IsHeldSince tells host disk;
  said = host.said;
  heard = host.heard;
  input = host.input;
  disk_faults = faults;
  talk_faults = host.talk_faults;
  failed = map as_first host.failed;
  wrote = wrote ∷ [];
}
