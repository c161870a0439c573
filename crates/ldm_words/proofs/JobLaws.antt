-- What the words before `on` say.
use Rattle.std.proofs.Common.{◌≡◌, ◌∙◌, ℕ, ◌==◌, ◌&&◌, ◌+◌, ◌-◌, ◌≤◌, ◌<◌, zero, suc, Bool, true, false, cond, List, [], ◌∷◌, length, take, drop, bytes_eq, refl, sym, subst, ap, arith, Option, Some, None, IfSome, is_some, unwrap_or, String, string_bytes}
use Rattle.std.specs.Prelude.{nat_le}
use Rattle.std.specs.Option.{option_map}
use Rattle.std.proofs.Math.Dec.{ltb}
use Rattle.std.proofs.lemmas.Bool.{and_parts, ltb-false}
use Rattle.std.proofs.lemmas.List.{length-drop, take-map}
use Rattle.std.proofs.lemmas.Bool.Decides.{nat_tests}
use Rattle.std.proofs.lemmas.Slice.Eq.{bytes_eq-Decides}
use Rattle.std.specs.List.{position_or_len, before_first}
use Rattle.std.specs.declared.alloc.Global.{Global}
use Rattle.ldm_words.specs.declared.job.Format.TheVariants.{Lines}
use Rattle.ldm_words.specs.declared.job.Job.{Job}
use Rattle.ldm_words.specs.declared.job.Job.TheVariants.{Disk, Records, Table, Tables, One, Init, Sample}
use Rattle.ldm_bytes.specs.Guid.{guid_of}
use Rattle.ldm_words.specs.Commands.{many, command_of}
use Rattle.ldm_words.specs.NewGroup.{new_group_name, AreInitWords}
use Rattle.ldm_words.specs.Jobs.{texts, is_on, image_words, images_of, images_behind, Form, forms, form_in, is_group, takes, fits, job_of, first_reading, optioned, with_options, job_form, with_images, HasCount}
use Rattle.ldm_words.proofs.LimitLaws.{within}
use Rattle.ldm_words.proofs.NewGroupLaws.{IsGroupName, is_new_group_name, AreGuids, are_guids}

-- the job of the words is the form before the first `on`, with the images after it
pub job_of_form : (words : List (String Global)) (place images : ℕ) (behind : Option ℕ) (paths : List (List ℕ)) (found : Option Job) → place ≡ position_or_len is_on (texts words) → images ≡ images_of (texts words)
    → behind ≡ images_behind (texts words) → paths ≡ image_words (texts words) → found ≡ job_form (texts (take place words)) paths → job_of (texts words) ≡ with_images images behind found
unfolding job_of
job_of_form words place images behind paths found at count those named is =
    let form : List (List ℕ) → Option (Job × ℕ) = λ front. with_images (images_of (texts words)) (images_behind (texts words)) (job_form front (image_words (texts words))) in
    rw (is, those, named, count, at) (ap form (take-map string_bytes (position_or_len is_on (texts words)) words))

-- another word is not equal to this
other_word : (word name : List ℕ) → (word ≡ name → ⊥) → bytes_eq word name ≡ false
other_word word name ne = go (bytes_eq word name) refl
  where
    go : (equal : Bool) → bytes_eq word name ≡ equal → bytes_eq word name ≡ false
    go true is = absurd (ne ((bytes_eq-Decides word name).0 is))
    go false is = is

-- the word has none of these forms
abbrev pub HasNone : List Form → List ℕ → Type 0
HasNone [] word = Unit {0}
HasNone (form ∷ forms) word = (word ≡ form.0 → ⊥) × HasNone forms word

no_form : (forms : List Form) (word : List ℕ) (rest : List (List ℕ)) → HasNone forms word → option_map (λ command. One command Lines) (command_of (word ∷ rest)) ≡ form_in forms word rest
no_form [] word rest none = refl
no_form (form ∷ forms) word rest none = rw (other_word word form.0 none.0) (no_form forms word rest none.1)

-- where the first word is none of the jobs' own, the words are a command
pub no_other : (word : List ℕ) (rest behind : List (List ℕ)) → HasNone (forms behind) word → option_map (λ command. One command Lines) (command_of (word ∷ rest)) ≡ form_in (forms behind) word rest
no_other word rest behind none = no_form (forms behind) word rest none

-- words that have a reading without options keep it
pub plain_first : (word : List ℕ) (rest behind : List (List ℕ)) (job : Job) → form_in (forms behind) word rest ≡ Some job → job_form (word ∷ rest) behind ≡ Some job
plain_first word [] behind job is = is
plain_first word (option ∷ rest) behind job is = rw is refl

module _ (behind : List (List ℕ)) (read : List (List ℕ) → Option Job) where
  -- the reading of words as they stand
  pub read_plain : (most : ℕ) (words : List (List ℕ)) (found : Option Job) (job : Job) → found ≡ read words → found ≡ Some job → Some job ≡ with_options behind most read words
  read_plain zero words found job is some = sym some ∙ is
  read_plain (suc most) [] found job is some = sym some ∙ is
  read_plain (suc most) (word ∷ words) found job is some =
      ap (λ (o : Option Job). first_reading o (optioned behind word (with_options behind most read words))) (sym some ∙ is)

  -- the reading of words whose first is an option
  pub read_option : (most : ℕ) (word : List ℕ) (words all : List (List ℕ)) (found inner : Option Job) → 0 < most → all ≡ word ∷ words → found ≡ read all → found ≡ None
      → inner ≡ with_options behind (most - 1) read words → optioned behind word inner ≡ with_options behind most read all
  read_option zero word words all found inner some cut is none rest = absurd (omega arith)
  read_option (suc most) word words all found inner some cut is none rest =
      ap (optioned behind word) (rest ∙ ap (λ (n : ℕ). with_options behind n read words) (less most))
      ∙ ap (λ (o : Option Job). first_reading o (optioned behind word (with_options behind most read words))) (sym none ∙ is ∙ ap read cut)
      ∙ ap (with_options behind (suc most) read) (sym cut)
    where
      less : (n : ℕ) → suc n - 1 ≡ n
      less n = omega arith

-- ---- the grammar's limits

-- the words of a new group keep them
pub init_limits : (name disks : List ℕ) (word : Option (List ℕ)) (words : List (List ℕ)) → new_group_name word ≡ Some name → many 2 guid_of words ≡ Some disks → AreInitWords name disks
init_limits name disks word words named many_are =
    let is = subst (λ (o : Option (List ℕ)). IfSome o IsGroupName) named (is_new_group_name word) in
    let are = subst (λ (o : Option (List ℕ)). IfSome o (AreGuids (length words))) many_are (are_guids words) in
    record { named = is.named; short = is.short; no_zero = is.no_zero; some = are.some; few = are.few }

-- ---- images

of_group : (images : ℕ) → is_group images ≡ true → (1 ≤ images) × (images ≤ 64)
of_group images is = (let parts = and_parts (nat_le 1 images) (nat_le images 64) is in (within 1 images parts.0, within images 64 parts.1))

as_many : (images count : ℕ) → (is_group images && images == count) ≡ true → (1 ≤ images) × (images ≤ 64) × (images ≡ count)
as_many images count is =
    let parts = and_parts (is_group images) (images == count) is in
    let group = of_group images parts.0 in
    (group.0, group.1, grind (arith, nat_tests, parts.1))

takes_count : (job : Job) (images : ℕ) → takes job images ≡ true → HasCount job images
takes_count (Disk format) images is = grind (arith, nat_tests, is)
takes_count (Records format) images is = grind (arith, nat_tests, is)
takes_count (Table name words) images is = as_many images (length words) is
takes_count (Tables words) images is = as_many images (length words) is
takes_count (Init name guid disks) images is = as_many images (length disks) is
takes_count (Sample seed) images is = absurd cc
takes_count job images is = of_group images is

fits_count : (job : Job) (behind : Option ℕ) → fits job behind ≡ true → HasCount job (unwrap_or behind 0)
fits_count job (Some images) is = takes_count job images is
fits_count (Sample seed) None is = refl
fits_count job None is = absurd cc

-- as many images follow the first `on`, and none where there is no `on`
behind_first : (place : ℕ) (words : List (List ℕ)) (inside : Bool) → ltb place (length words) ≡ inside
    → unwrap_or (cond (is_some (cond inside (Some place) None)) (Some (length (drop (place + 1) words))) None) 0 ≡ length (drop (place + 1) words)
behind_first place words true is = refl
behind_first place words false is = sym (length-drop (place + 1) words ∙ (let within = ltb-false place (length words) is in omega arith))

images_are : (words : List (List ℕ)) → unwrap_or (images_behind words) 0 ≡ images_of words
images_are words = behind_first (position_or_len is_on words) words (ltb (position_or_len is_on words) (length words)) refl

-- a job that is read has as many images as it may have
found_count : (words : List (List ℕ)) (found : Option Job) → IfSome (with_images (images_of words) (images_behind words) found) (λ reading. HasCount reading.0 reading.1)
found_count words None = tt
found_count words (Some job) = go (fits job (images_behind words)) refl
  where
    go : (b : Bool) → fits job (images_behind words) ≡ b → (let some : Option (Job × ℕ) = cond b (Some (job, images_of words)) None in IfSome some (λ reading. HasCount reading.0 reading.1))
    go false is = tt
    go true is = subst (λ n. HasCount job n) (images_are words) (fits_count job (images_behind words) is)

pub reading_counts : (words : List (List ℕ)) (reading : Job × ℕ) → job_of words ≡ Some reading → HasCount reading.0 reading.1
unfolding job_of
reading_counts words reading is =
    subst (λ (o : Option (Job × ℕ)). IfSome o (λ r. HasCount r.0 r.1)) is (found_count words (job_form (before_first is_on words) (image_words words)))
