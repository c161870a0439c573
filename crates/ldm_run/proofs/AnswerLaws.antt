-- What is answered to words, which is one answer, and what those of dump and scrub are made of.
use Rattle.std.proofs.Common.{◌≡◌, ℕ, ◌+◌, ◌≤◌, ◌==◌, nat_lt, arith, Bool, true, false, List, codes, Option, Some, None, Result, Ok, ap, sym, ◌∙◌, if◌then◌else◌, map}
use Rattle.std.proofs.lemmas.Bool.{ltb-false, or_parts}
use Rattle.std.specs.Prelude.{◌||◌}
use Rattle.ldm_records.specs.declared.types.Volume.{Volume}
use Rattle.ldm_group.specs.Looks.{volume_named}
use Rattle.ldm_places.specs.Layouts.{Layout}
use Rattle.ldm_layout.specs.Volumes.{layout_of}
use Rattle.ldm_places.specs.declared.shape.LayoutFault.{LayoutFault}
use Rattle.ldm_label.specs.Fields.{sectors_of}
use Rattle.ldm_words.specs.declared.job.Format.{Format}
use Rattle.ldm_words.specs.declared.job.Job.{Job}
use Rattle.ldm_words.specs.declared.job.Section.{Section}
use Rattle.ldm_words.specs.declared.status.Status.TheVariants.{Done, Refused}
use Rattle.ldm_words.specs.Jobs.{job_of}
use Rattle.ldm_copy.specs.declared.found.Found.{Found}
use Rattle.ldm_dump.specs.Sources.{IsLeastLostIn}
use Rattle.ldm_dump.proofs.RunLaws.{least_found_in}
use Rattle.ldm_scrub.specs.Missing.{missing_of}
use Rattle.ldm_init.proofs.InitLaws.{one_fault}
use Rattle.ldm_look.specs.Said.{Answer, HasAnswer, refused}
use Rattle.ldm_words.specs.declared.job.Format.TheVariants.{Lines}
use Rattle.ldm_look.specs.Refusals.{refusal_for}
use Rattle.ldm_look.specs.Looks.{formatted_answer, IsFormattedAnswer}
use Rattle.ldm_look.proofs.AnswerLaws.{one_of_group, one_formatted, one_of_look}
use Rattle.ldm_run.specs.Streaming.{laid_answer, named_answer, is_bad_section, section_in, bytes_answer, section_dump, volume_dump, dump_answer, is_compared, scrub_status, places_answer, volume_scrub, scrub_answer}
use Rattle.ldm_run.specs.Scripts.{is_long_script, commands_in, try_answer}
use Rattle.ldm_run.specs.Making.{init_answer}
use Rattle.ldm_run.specs.Answer.{Basis, OfLook, OfGroup, OfFormatted, OfScript, OfEmpty, OfSeed, basis_of, IsAnswerBy, IsAnswerToScript, IsReadingAnswer, IsAnswerTo}
use Rattle.ldm_run.proofs.SampleLaws.{one_sample}

-- ---- What is answered where the bytes of a volume are to be said, and where its copies or its rows are to be compared.

-- where no volume has the name
pub no_dump : (name : List ℕ) (section : Option Section) (images : List (List ℕ)) (found : Found) → volume_named name found.db.records ≡ None → refused (codes "no volume") ≡ dump_answer name section images found
no_dump name section images found none = ap (λ (o : Option Volume). named_answer Lines (λ v. laid_answer (volume_dump images found section) (layout_of found.db.records v)) o) (sym none)

-- of a volume with this layout
of_named : (format : Format) (answer : Volume → Layout → Answer) (name : List ℕ) (found : Found) (v : Volume) (l : Layout) → volume_named name found.db.records ≡ Some v → layout_of found.db.records v ≡ Ok l
    → answer v l ≡ named_answer format (λ w. laid_answer (answer w) (layout_of found.db.records w)) (volume_named name found.db.records)
of_named format answer name found v l named laid =
    ap (λ (r : Result Layout LayoutFault). laid_answer (answer v) r) (sym laid)
    ∙ ap (λ (o : Option Volume). named_answer format (λ w. laid_answer (answer w) (layout_of found.db.records w)) o) (sym named)

pub dump_of : (name : List ℕ) (section : Option Section) (images : List (List ℕ)) (found : Found) (v : Volume) (l : Layout) → volume_named name found.db.records ≡ Some v → layout_of found.db.records v ≡ Ok l
    → volume_dump images found section l ≡ dump_answer name section images found
dump_of name section images found v l named laid = of_named Lines (λ w. volume_dump images found section) name found v l named laid

-- a section that the volume has
pub section_within : (size : ℕ) (section : Option Section) → is_bad_section size section ≡ false → (section_in size section).first + (section_in size section).count ≤ size
section_within size None is = omega arith
section_within size (Some section) is = ltb-false size (section.first + section.count) (or_parts (section.count == 0) (nat_lt size (section.first + section.count)) is).1

-- a section that the volume doesn't have
pub bad_dump : (images : List (List ℕ)) (found : Found) (l : Layout) (section : Option Section) (size : ℕ) → size ≡ l.size → is_bad_section size section ≡ true → refused (codes "bad range") ≡ volume_dump images found section l
bad_dump images found l section size same bad =
    sym (ap (λ (b : Bool). if b then refused (codes "bad range") else section_dump images found l (section_in l.size section)) (sym (ap (λ (n : ℕ). is_bad_section n section) same) ∙ bad))

-- one that it has
pub good_dump : (images : List (List ℕ)) (found : Found) (l : Layout) (section : Option Section) (size : ℕ) (wanted : Section) → size ≡ l.size → is_bad_section size section ≡ false → wanted ≡ section_in size section
    → section_dump images found l wanted ≡ volume_dump images found section l
good_dump images found l section size wanted same good is =
    ap (λ (s : Section). section_dump images found l s) (is ∙ ap (λ (n : ℕ). section_in n section) same)
    ∙ sym (ap (λ (b : Bool). if b then refused (codes "bad range") else section_dump images found l (section_in l.size section)) (sym (ap (λ (n : ℕ). is_bad_section n section) same) ∙ good))

-- by its least sector that is lost
pub section_of_lost : (images : List (List ℕ)) (found : Found) (l : Layout) (section : Section) (r : Option ℕ) → IsLeastLostIn found l section.first (section.first + section.count) r
    → bytes_answer images found l section r ≡ section_dump images found l section
section_of_lost images found l section r least =
    ap (λ (o : Option ℕ). bytes_answer images found l section o) (sym (least_found_in found l section.first section.count r least))

-- ---- scrub

-- the status of a count is an answer's
pub status_answers : (bad : ℕ) → HasAnswer (scrub_status bad)
status_answers bad = go (bad == 0)
  where
    go : (b : Bool) → HasAnswer (if b then Done else Refused)
    go true = tt
    go false = tt

pub no_scrub : (format : Format) (name : List ℕ) (images : List (List ℕ)) (found : Found) → volume_named name found.db.records ≡ None
    → refusal_for format (codes "no volume") None (codes "no volume") ≡ scrub_answer format name images found
no_scrub format name images found none = ap (λ (o : Option Volume). named_answer format (λ v. laid_answer (volume_scrub format name images found v) (layout_of found.db.records v)) o) (sym none)

-- of one with nothing to compare
pub scrub_of_other : (format : Format) (name : List ℕ) (images : List (List ℕ)) (found : Found) (v : Volume) (l : Layout) → volume_named name found.db.records ≡ Some v → layout_of found.db.records v ≡ Ok l
    → is_compared l.shape ≡ false → refusal_for format (codes "nothing to compare") None (codes "nothing to compare") ≡ scrub_answer format name images found
scrub_of_other format name images found v l named laid other =
    ap (λ (b : Bool). if b then places_answer format name images found l (missing_of found v.head.id) else refusal_for format (codes "nothing to compare") None (codes "nothing to compare")) (sym other) ∙ of_named format (volume_scrub format name images found) name found v l named laid

-- of one with copies or rows, by its disk that is missing
pub scrub_of_places : (format : Format) (name : List ℕ) (images : List (List ℕ)) (found : Found) (v : Volume) (l : Layout) (r : Option ℕ) → volume_named name found.db.records ≡ Some v → layout_of found.db.records v ≡ Ok l
    → is_compared l.shape ≡ true → r ≡ missing_of found v.head.id → places_answer format name images found l r ≡ scrub_answer format name images found
scrub_of_places format name images found v l r named laid compared missing =
    ap (λ (o : Option ℕ). places_answer format name images found l o) missing
    ∙ (ap (λ (b : Bool). if b then places_answer format name images found l (missing_of found v.head.id) else refusal_for format (codes "nothing to compare") None (codes "nothing to compare")) (sym compared)
    ∙ of_named format (volume_scrub format name images found) name found v l named laid)

-- ---- There is one answer to the words.

one_of_script : (format : Format) (long : Bool) (script : List ℕ) (images : List (List ℕ)) (a b : Answer) → IsAnswerToScript format long script images a → IsAnswerToScript format long script images b → a ≡ b
one_of_script format true script images a b x y = x ∙ sym y
one_of_script format false script images a b x y = one_formatted format (try_answer format (commands_in script)) images a b x y

one_by : (basis : Basis) (images : List (List ℕ)) (input : List ℕ) (a b : Answer) → IsAnswerBy basis images input a → IsAnswerBy basis images input b → a ≡ b
one_by (OfLook job) images input a b x y = one_of_look job images a b x y
one_by (OfGroup answer_of) images input a b x y = one_of_group (answer_of images) images a b x y
one_by (OfFormatted format answer_of) images input a b x y = one_formatted format (answer_of images) images a b x y
one_by (OfScript format) images input a b x y = one_of_script format (is_long_script input) input images a b x y
one_by (OfEmpty guids) images input a b x y = x.2 ∙ ap init_answer (one_fault guids (map sectors_of images) images x.0 y.0 x.1 y.1) ∙ sym y.2
one_by (OfSeed seed) images input a b x y = one_sample seed a b x y

one_reading : (reading : Option (Job × ℕ)) (images : List (List ℕ)) (input : List ℕ) (a b : Answer) → IsReadingAnswer reading images input a → IsReadingAnswer reading images input b → a ≡ b
one_reading None images input a b x y = x ∙ sym y
one_reading (Some reading) images input a b x y = one_by (basis_of reading.0) images input a b x y

pub one_answer : (words images : List (List ℕ)) (input : List ℕ) (a b : Answer) → IsAnswerTo words images input a → IsAnswerTo words images input b → a ≡ b
one_answer words images input a b x y = one_reading (job_of words) images input a b x y
