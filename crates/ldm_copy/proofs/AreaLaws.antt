-- The parts of an area by their places on the disk, and areas that hold the same bytes.
use Rattle.std.proofs.Common.{◌≡◌, ℕ, ◌+◌, ◌-◌, ◌*◌, ◌<◌, ◌≤◌, List, length, take, drop, ◌++◌, slice_index, slice_range, sym, ap, ◌∙◌, arith, ◌≢◌, ◌↔◌, ◌/◌, max, min, Bool, Result, Ok, Err, IfOk, subst}
use Rattle.std.proofs.Math.Seq.{take-add}
use Rattle.std.proofs.lemmas.List.{take-take, drop-drop, drop-take, get_or-take, get_or-drop, length-take, length-drop}
use Rattle.ldm_bytes.proofs.PlaceLaws.{same_range}
use Rattle.ldm_label.specs.declared.Label.{Label}
use Rattle.ldm_copy.specs.Alike.{sectors_from, in_use, AreAlike}
use Rattle.ldm_copy.specs.Copy.{header_sector, config_area, gate_at, blocks_in_use, IsCopyOf, IsWritten}
use Rattle.std.specs.Prelude.{IsTrue}
use Rattle.ldm_vmdb.specs.Sectors.{last_of}
use Rattle.ldm_vmdb.specs.Headers.{vmdb_fault, IsHeaderOf}
use Rattle.ldm_vmdb.proofs.HeaderLaws.{no_fault_is_vmdb, vmdb_without_fault}
use Rattle.ldm_host.specs.declared.host.Failed.{Failed}
use Rattle.ldm_group.specs.Database.{Database}
use Rattle.ldm_copy.specs.declared.answer.CopyState.TheVariants.{Valid}
use Rattle.ldm_copy.specs.Records.{HoldRecords}

-- ---- The parts of an area, by their places on the disk.

-- a range of a range
pub range_range : (xs : List ℕ) (a b from to c d : ℕ) → a + from ≡ c → a + to ≡ d → c ≤ b → d ≤ b
    → slice_range (slice_range xs a b) from to ≡ slice_range xs c d
range_range xs a b from to c d first last begins ends =
    let m : ℕ = b - a - from in
    let whole : b - a ≡ from + m = omega arith in
    ap (λ (n : ℕ). take (to - from) (drop from (take n (drop a xs)))) whole
    ∙ ap (take (to - from)) (drop-take from m (drop a xs))
    ∙ take-take (to - from) m (drop from (drop a xs)) (omega arith)
    ∙ ap (take (to - from)) (drop-drop from a xs ∙ ap (λ (n : ℕ). drop n xs) first)
    ∙ ap (λ (n : ℕ). take n (drop c xs)) (omega arith)

-- ---- sectors of an image

-- one part after the other
pub split : (image : List ℕ) (from m n : ℕ) → sectors_from from (m + n) image ≡ sectors_from from m image ++ sectors_from (from + m) n image
split image from m n =
    let whole : 512 * (from + (m + n)) - 512 * from ≡ 512 * m + 512 * n = omega arith in
    let first : 512 * m ≡ 512 * (from + m) - 512 * from = omega arith in
    let next : 512 * n ≡ 512 * (from + m + n) - 512 * (from + m) = omega arith in
    let place : 512 * from + 512 * m ≡ 512 * (from + m) = omega arith in
    ap (λ (k : ℕ). take k (drop (512 * from) image)) whole
    ∙ take-add (512 * m) (512 * n) (drop (512 * from) image)
    ∙ ap (λ (l : List ℕ). take (512 * m) (drop (512 * from) image) ++ take (512 * n) l) (drop-drop (512 * m) (512 * from) image)
    ∙ ap (λ (k : ℕ). take (512 * m) (drop (512 * from) image) ++ take (512 * n) (drop k image)) place
    ∙ ap (λ (k : ℕ). take k (drop (512 * from) image) ++ take (512 * n) (drop (512 * (from + m)) image)) first
    ∙ ap (λ (k : ℕ). sectors_from from m image ++ take k (drop (512 * (from + m)) image)) next

-- some sectors, by their bytes
pub chunk_is : (image : List ℕ) (from n size : ℕ) → size ≡ 512 * n → slice_range image (512 * from) (512 * from + size) ≡ sectors_from from n image
chunk_is image from n size is = ap (λ (j : ℕ). slice_range image (512 * from) j) (omega arith)

-- ---- the parts of an area

pub header_there : (image : List ℕ) (start sectors : ℕ) → 1 ≤ sectors
    → slice_range image (512 * start) (512 * start + 512) ≡ header_sector (slice_range image (512 * start) (512 * (start + sectors)))
header_there image start sectors some =
    sym (range_range image (512 * start) (512 * (start + sectors)) 0 512 (512 * start)
    (512 * start + 512) (omega arith) (omega arith) (omega arith) (omega arith))

pub blocks_there : (image : List ℕ) (start sectors q : ℕ) → 1 ≤ sectors → q ≤ sectors
    → slice_range image (512 * start + 512) (512 * start + 512 * q) ≡ slice_range (slice_range image (512 * start) (512 * (start + sectors))) 512 (512 * q)
blocks_there image start sectors q some within =
    sym (range_range image (512 * start) (512 * (start + sectors)) 512 (512 * q) (512 * start + 512)
    (512 * start + 512 * q) (omega arith) (omega arith) (omega arith) (omega arith))

-- the sectors behind the header's
pub behind_header : (image : List ℕ) (start q : ℕ) → sectors_from (start + 1) (q - 1) image ≡ slice_range image (512 * start + 512) (512 * start + 512 * q)
behind_header image start q =
    let size : 512 * (start + 1 + (q - 1)) - 512 * (start + 1) ≡ 512 * start + 512 * q - (512 * start + 512) = omega arith in
    ap (λ (n : ℕ). take n (drop (512 * (start + 1)) image)) size
    ∙ ap (λ (m : ℕ). take (512 * start + 512 * q - (512 * start + 512)) (drop m image)) (omega arith)

-- the gate byte is the first of the header sector
pub gate_there : (area : List ℕ) → slice_index (header_sector area) 0 ≡ slice_index area 0
gate_there area = get_or-take 512 (drop 0 area) 0 0 (omega arith) ∙ get_or-drop 0 area 0 0

-- ---- the area, by the bytes of its disk

-- images of one length that agree in the area have one area
pub area_same : (label : Label) (x y : List ℕ) → length x ≡ length y
    → ((k : ℕ) → gate_at label ≤ k → k < gate_at label + 512 * label.area_sectors → slice_index x k ≡ slice_index y k) → config_area label x ≡ config_area label y
area_same label x y size same =
    let start = label.config_start + label.area_start in
    same_range x y (512 * start) (512 * (start + label.area_sectors)) size (λ k from to. same k from (omega arith))

-- the bytes of the area are those of the image
pub area_byte : (label : Label) (image : List ℕ) (k : ℕ) → k < 512 * label.area_sectors → slice_index (config_area label image) k ≡ slice_index image (gate_at label + k)
area_byte label image k lt =
    let start = label.config_start + label.area_start in
    let n : ℕ = 512 * (start + label.area_sectors) - 512 * start in
    get_or-take n (drop (512 * start) image) k 0 (omega arith) ∙ get_or-drop (512 * start) image k 0

-- the first byte of the area is the gate
pub gate_of : (label : Label) (image : List ℕ) → 1 ≤ label.area_sectors → slice_index (config_area label image) 0 ≡ slice_index image (gate_at label)
gate_of label image some = area_byte label image 0 (omega arith) ∙ ap (λ (k : ℕ). slice_index image k) (omega arith)

-- the length of an area that lies on the image
pub area_length : (label : Label) (image : List ℕ) → gate_at label + 512 * label.area_sectors ≤ length image → length (config_area label image) ≡ 512 * label.area_sectors
area_length label image on =
    let start = label.config_start + label.area_start in
    omega (arith, on, length-take (512 * (start + label.area_sectors) - 512 * start) (drop (512 * start) image), length-drop (512 * start) image)

-- ---- the sectors of two images, one part after the other

-- ranges of two images are alike where their first m sectors are, and the n sectors behind these
pub same_more : (x y : List ℕ) (f g m n k : ℕ) → k ≡ m + n → sectors_from f m x ≡ sectors_from g m y → sectors_from (f + m) n x ≡ sectors_from (g + m) n y
    → sectors_from f k x ≡ sectors_from g k y
same_more x y f g m n k is before next =
    ap (λ (j : ℕ). sectors_from f j x) is ∙ split x f m n
    ∙ ap (λ (l : List ℕ). l ++ sectors_from (f + m) n x) before ∙ ap (λ (l : List ℕ). sectors_from g m y ++ l) next
    ∙ sym (split y g m n) ∙ ap (λ (j : ℕ). sectors_from g j y) (sym is)

part : (image : List ℕ) (from m n k : ℕ) → m + n ≤ k → slice_range (sectors_from from k image) (512 * m) (512 * (m + n)) ≡ sectors_from (from + m) n image
part image from m n k within =
    range_range image (512 * from) (512 * (from + k)) (512 * m) (512 * (m + n)) (512 * (from + m))
    (512 * (from + m + n)) (omega arith) (omega arith) (omega arith) (omega arith)

-- a part of what is the same
pub same_part : (x y : List ℕ) (f g m n k : ℕ) → m + n ≤ k → sectors_from f k x ≡ sectors_from g k y → sectors_from (f + m) n x ≡ sectors_from (g + m) n y
same_part x y f g m n k within same =
    sym (part x f m n k within) ∙ ap (λ (l : List ℕ). slice_range l (512 * m) (512 * (m + n))) same ∙ part y g m n k within

-- ---- chunks

-- the bytes of a few sectors
pub few_same : (r : Result Bool Failed) (x y : List ℕ) (f g n size : ℕ) → size ≡ 512 * n
    → IfOk r (λ same. IsTrue same ↔ (slice_range x (512 * f) (512 * f + size) ≡ slice_range y (512 * g) (512 * g + size)))
    → IfOk r (λ same. IsTrue same ↔ (sectors_from f n x ≡ sectors_from g n y))
few_same (Err failed) x y f g n size is same = tt
few_same (Ok answer) x y f g n size is same = (
  λ yes. sym (chunk_is x f n size is) ∙ same.0 yes ∙ chunk_is y g n size is,
  λ sectors. same.1 (chunk_is x f n size is ∙ sectors ∙ sym (chunk_is y g n size is)),
)

-- the next chunk of two images that are the same so far
pub next_same : (x y : List ℕ) (f g k i n : ℕ) → 8 * i < k → n ≡ min 8 (k - 8 * i) → sectors_from f (min (8 * i) k) x ≡ sectors_from g (min (8 * i) k) y
    → sectors_from (f + 8 * i) n x ≡ sectors_from (g + 8 * i) n y → sectors_from f (min (8 * (i + 1)) k) x ≡ sectors_from g (min (8 * (i + 1)) k) y
next_same x y f g k i n lt is before next =
    let done : min (8 * i) k ≡ 8 * i = omega arith in
    let more : min (8 * (i + 1)) k ≡ 8 * i + n = omega arith in
    same_more x y f g (8 * i) n (min (8 * (i + 1)) k) more (subst (λ (j : ℕ). sectors_from f j x ≡ sectors_from g j y) done before) next

-- ---- the bytes in use, by their places on the disk

pub in_use_there : (label : Label) (image : List ℕ) (last : ℕ) → max 1 (last / 4) ≤ label.area_sectors
    → in_use last (config_area label image) ≡ sectors_from (label.config_start + label.area_start) (max 1 (last / 4)) image
in_use_there label image last room =
    let start = label.config_start + label.area_start in
    range_range image (512 * start) (512 * (start + label.area_sectors)) 0 (512 * max 1 (last / 4))
    (512 * start) (512 * (start + max 1 (last / 4))) (omega arith) (omega arith) (omega arith)
    (omega arith)

-- ---- one copy

part_in_use : (area : List ℕ) (last i j : ℕ) → i ≤ 512 * max 1 (last / 4) → j ≤ 512 * max 1 (last / 4) → slice_range (in_use last area) i j ≡ slice_range area i j
part_in_use area last i j begins ends = range_range area 0 (512 * max 1 (last / 4)) i j i j
    (omega arith) (omega arith) (omega arith) (omega arith)

module _ (area other : List ℕ) (last : ℕ) (same : in_use last area ≡ in_use last other) where
  same_in_use : (i j : ℕ) → i ≤ 512 * max 1 (last / 4) → j ≤ 512 * max 1 (last / 4) → slice_range area i j ≡ slice_range other i j
  same_in_use i j begins ends = sym (part_in_use area last i j begins ends) ∙ ap (λ (l : List ℕ). slice_range l i j) same ∙ part_in_use other last i j begins ends

  same_header : header_sector area ≡ header_sector other
  same_header = same_in_use 0 512 (omega arith) (omega arith)

  same_blocks : last_of (header_sector other) ≡ last → blocks_in_use area ≡ blocks_in_use other
  same_blocks is =
      ap (λ (h : List ℕ). slice_range area 512 (512 * (last_of h / 4))) same_header
      ∙ same_in_use 512 (512 * (last_of (header_sector other) / 4)) (omega arith) (omega arith)

  -- the copy in one is that in the other, where its last VBLK sequence lies in the area
  pub same_copy : (sectors other_sectors : ℕ) (db : Database) → db.header.last ≡ last → last ≤ 4 * sectors
      → IsCopyOf other other_sectors (Ok (Valid db)) → IsCopyOf area sectors (Ok (Valid db))
  same_copy sectors other_sectors db is room (header, values, (records, held, of_db)) =
      let last_is : last_of (header_sector other) ≡ last = sym values.last_is ∙ is in
      let faultless = vmdb_without_fault (header_sector other) sectors db.header.guid (no_fault_is_vmdb (header_sector other) other_sectors header.faultless) (omega arith) values.guid_is in (
        record {
          open_is = sym (gate_there area) ∙ ap (λ (h : List ℕ). slice_index h 0) same_header ∙ gate_there other ∙ header.open_is;
          faultless = ap (λ (h : List ℕ). vmdb_fault h sectors) same_header ∙ faultless;
        },
        subst (λ (h : List ℕ). IsHeaderOf db.header h) (sym same_header) values,
        (records, subst (λ (b : List ℕ). HoldRecords b records) (sym (same_blocks last_is)) held, of_db),
      )

-- ---- two areas, by the sectors that were compared

module _ (last n : ℕ) (a b : Label) (x y : List ℕ) (n_is : n ≡ max 1 (last / 4)) (some : a.area_sectors ≢ 0) (other_some : b.area_sectors ≢ 0)
    (room : last ≤ 4 * a.area_sectors) (other_room : last ≤ 4 * b.area_sectors) where
  abbrev pub AreSame : Type 0
  AreSame = sectors_from (a.config_start + a.area_start) n x ≡ sectors_from (b.config_start + b.area_start) n y

  there : (label : Label) (image : List ℕ) → label.area_sectors ≢ 0 → last ≤ 4 * label.area_sectors
      → in_use last (config_area label image) ≡ sectors_from (label.config_start + label.area_start) n image
  there label image here within =
      in_use_there label image last (omega arith) ∙ ap (λ (k : ℕ). sectors_from (label.config_start + label.area_start) k image) (sym n_is)

  alike : AreSame → AreAlike last (a, x) (b, y)
  alike same = record { room = room; other_room = other_room; same = there a x some room ∙ same ∙ sym (there b y other_some other_room) }

  same_sectors : AreAlike last (a, x) (b, y) → AreSame
  same_sectors is = sym (there a x some room) ∙ is.same ∙ there b y other_some other_room

  pub alike_is : (r : Result Bool Failed) → IfOk r (λ same. IsTrue same ↔ AreSame) → IfOk r (λ same. IsTrue same ↔ AreAlike last (a, x) (b, y))
  alike_is (Ok same) is = (λ yes. alike (is.0 yes), λ are. is.1 (same_sectors are))
  alike_is (Err failed) is = tt

  pub alike_copy : (r : Result Bool Failed) → IfOk r (λ same. IsTrue same ↔ AreSame)
      → IfOk r (λ same. IsTrue same → (db : Database) → db.header.last ≡ last → IsWritten b db y → IsWritten a db x)
  alike_copy (Ok same) is = λ yes db last_is copy.
      same_copy (config_area a x) (config_area b y) last (alike (is.0 yes)).same a.area_sectors b.area_sectors db last_is room copy
  alike_copy (Err failed) is = tt
