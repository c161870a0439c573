-- What is answered where bytes of a volume are to be said, and where its copies or its rows are to be compared.
use Rattle.std.specs.Prelude.{ℕ, ◌≡◌, ◌+◌, ◌*◌, ◌<◌, ◌≤◌, ◌++◌, ◌==◌, ◌||◌, nat_lt, length, Bool, true, false, List, [], codes, decimal, Option, Some, None, Result, Ok, Err, find, if◌then◌else◌}
use Rattle.std.specs.List.{range_with_len}
use Rattle.ldm_records.specs.declared.types.Volume.{Volume}
use Rattle.ldm_group.specs.Looks.{volume_named}
use Rattle.ldm_places.specs.Layouts.{Layout}
use Rattle.ldm_layout.specs.Volumes.{layout_of}
use Rattle.ldm_places.specs.declared.shape.LayoutFault.{LayoutFault}
use Rattle.ldm_places.specs.declared.shape.Shape.{Shape}
use Rattle.ldm_places.specs.declared.shape.Shape.TheVariants.{Mirror, Raid5}
use Rattle.ldm_copy.specs.declared.found.Found.{Found}
use Rattle.ldm_dump.specs.Sources.{is_lost}
use Rattle.ldm_dump.specs.Bytes.{bytes_of_sectors}
use Rattle.ldm_scrub.specs.Compare.{places_of}
use Rattle.ldm_scrub.specs.Lines.{bad_of, text_of_scrub}
use Rattle.ldm_scrub.specs.Missing.{missing_of}
use Rattle.ldm_words.specs.declared.job.Format.{Format}
use Rattle.ldm_words.specs.declared.job.Format.TheVariants.{Lines}
use Rattle.ldm_words.specs.declared.job.Section.{Section}
use Rattle.ldm_look.specs.Said.{Answer, refused}
use Rattle.ldm_look.specs.Refusals.{refusal_for}
use Rattle.ldm_words.specs.declared.status.Status.{Status}
use Rattle.ldm_run.specs.declared.scrub.Buffers.{Buffers}
use Rattle.ldm_words.specs.declared.status.Status.TheVariants.{Done, Refused}

-- by its layout, which each volume of a group that was found has
abbrev pub laid_answer : (Layout → Answer) → Result Layout LayoutFault → Answer
laid_answer answer (Ok l) = answer l
laid_answer answer (Err fault) = ([], Done)

-- of the volume of this name
abbrev pub named_answer : Format → (Volume → Answer) → Option Volume → Answer
named_answer format answer None = refusal_for format (codes "no volume") None (codes "no volume")
named_answer format answer (Some v) = answer v

-- ---- dump

-- no sector is asked for, or one behind the volume's end
abbrev pub is_bad_section : ℕ → Option Section → Bool
is_bad_section size None = false
is_bad_section size (Some section) = (section.count == 0) || nat_lt size (section.first + section.count)

-- the sectors that are asked for: those of a section, or all
abbrev pub section_in : ℕ → Option Section → Section
section_in size None = record { first = 0; count = size }
section_in size (Some section) = section

-- the bytes of its sectors, unless this one is lost
abbrev pub bytes_answer : List (List ℕ) → Found → Layout → Section → Option ℕ → Answer
bytes_answer images found l section (Some x) = refused ((codes "sector " ++ decimal x) ++ codes " is lost")
bytes_answer images found l section None = (bytes_of_sectors images found l section.first section.count, Done)

-- unless one of them is lost, of which the least is named
abbrev pub section_dump : List (List ℕ) → Found → Layout → Section → Answer
section_dump images found l section = bytes_answer images found l section (find (is_lost found l) (range_with_len section.first section.count))

abbrev pub volume_dump : List (List ℕ) → Found → Option Section → Layout → Answer
volume_dump images found section l =
    if is_bad_section l.size section then refused (codes "bad range")
    else section_dump images found l (section_in l.size section)

-- the bytes of a section of the volume of this name, or of all of it
abbrev pub dump_answer : List ℕ → Option Section → List (List ℕ) → Found → Answer
dump_answer name section images found =
    named_answer Lines (λ v. laid_answer (volume_dump images found section) (layout_of found.db.records v)) (volume_named name found.db.records)

-- ---- scrub

-- whether there is anything to compare
abbrev pub is_compared : Shape → Bool
is_compared Mirror = true
is_compared Raid5 = true
is_compared _ = false

-- Done where no place is bad
abbrev pub scrub_status : ℕ → Status
scrub_status bad = if bad == 0 then Done else Refused

-- the lines of the bad places, unless this disk is missing
abbrev pub places_answer : Format → List ℕ → List (List ℕ) → Found → Layout → Option ℕ → Answer
places_answer format name images found l (Some disk) = refusal_for format (codes "missing") (Some disk) ((codes "disk " ++ decimal disk) ++ codes " is missing")
places_answer format name images found l None = (text_of_scrub format name images found l, scrub_status (bad_of images found l (places_of l)))

abbrev pub volume_scrub : Format → List ℕ → List (List ℕ) → Found → Volume → Layout → Answer
volume_scrub format name images found v l =
    if is_compared l.shape then places_answer format name images found l (missing_of found v.head.id)
    else refusal_for format (codes "nothing to compare") None (codes "nothing to compare")

abbrev pub scrub_answer : Format → List ℕ → List (List ℕ) → Found → Answer
scrub_answer format name images found =
    named_answer format (λ v. laid_answer (volume_scrub format name images found v) (layout_of found.db.records v)) (volume_named name found.db.records)

-- room to compare some sectors at a time, for a line of 100 bytes at most for each, and for a last line that begins so
pub record FitsScrub (front : List ℕ) (b : Buffers) : Type 0 where
  pub some : 0 < length b.marks.items
  pub size : length b.out.items ≡ 512 * length b.marks.items
  pub same : length b.scratch.items ≡ length b.out.items
  pub room : 100 * length b.marks.items ≤ length b.page.items
  pub last : length front + 100 ≤ length b.page.items
