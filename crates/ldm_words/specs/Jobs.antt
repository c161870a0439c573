-- What a command line says: JOB on IMAGE.., where the first word `on` separates, or a job without images. A word is one
-- token. Options may stand behind the first word of a job.
use Rattle.std.specs.Prelude.{◌≡◌, ◌≤◌, ℕ, zero, suc, ◌==◌, ◌&&◌, nat_le, Bool, true, false, List, [], ◌∷◌, length, map, position, codes, bytes_eq, if◌then◌else◌, Option, Some, None, is_some, String, string_bytes}
use Rattle.std.specs.List.{before_first, after_first}
use Rattle.std.specs.Option.{option_map}
use Rattle.std.specs.declared.alloc.Global.{Global}
use Rattle.ldm_bytes.specs.Guid.{guid_of}
use Rattle.ldm_words.specs.declared.job.Format.{Format}
use Rattle.ldm_words.specs.declared.job.Format.TheVariants.{Lines, Json}
use Rattle.ldm_words.specs.declared.job.Section.{Section}
use Rattle.ldm_words.specs.declared.job.Job.{Job}
use Rattle.ldm_words.specs.declared.job.Job.TheVariants.{Disk, Records, Scan, Show, Check, Map, Dump, Scrub, Table, Tables, Try, Edit, One, Init, Sample}
use Rattle.ldm_words.specs.Numbers.{number_of}
use Rattle.ldm_words.specs.Names.{name_of}
use Rattle.ldm_words.specs.Commands.{both, all_three, many, command_of}
use Rattle.ldm_words.specs.NewGroup.{new_group_name, AreInitWords}
use Rattle.ldm_words.specs.Limits.{IsCommand}

-- the words, as lists of bytes
abbrev pub texts : List (String Global) → List (List ℕ)
texts words = map string_bytes words

abbrev pub is_on : List ℕ → Bool
is_on word = bytes_eq word (codes "on")

-- the words behind the first `on`, which name the images; none where there is no `on`
abbrev pub image_words : List (List ℕ) → List (List ℕ)
image_words words = after_first is_on words

-- how many they are
abbrev pub images_of : List (List ℕ) → ℕ
images_of words = length (image_words words)

-- how many words follow the first `on`, if there is one
abbrev pub images_behind : List (List ℕ) → Option ℕ
images_behind words = if is_some (position is_on words) then Some (images_of words) else None

-- ---- the words before it

-- a job that takes no words of its own
abbrev pub plain_job : Job → List (List ℕ) → Option Job
plain_job job [] = Some job
plain_job job rest = None

-- NAME
abbrev pub named_in : List (List ℕ) → Option (List ℕ)
named_in (name ∷ []) = name_of name
named_in rest = None

abbrev pub named : (List ℕ → Job) → List (List ℕ) → Option Job
named make rest = option_map make (named_in rest)

-- the volume, its first sector and how many sectors, where all three can be read
abbrev pub map_with : Option (List ℕ) → Option ℕ → Option ℕ → Option Job
map_with (Some name) (Some first) (Some count) = Some (Map name first count Lines)
map_with name first count = None

-- NAME FIRST COUNT
abbrev pub map_form : List (List ℕ) → Option Job
map_form (name ∷ first ∷ count ∷ []) = map_with (name_of name) (number_of first) (number_of count)
map_form rest = None

-- FIRST COUNT
abbrev pub section_of : List ℕ → List ℕ → Option Section
section_of first count = both (λ f c. record { first = f; count = c }) (number_of first) (number_of count)

-- NAME, or NAME FIRST COUNT
abbrev pub dump_form : List (List ℕ) → Option Job
dump_form (name ∷ []) = option_map (λ n. Dump n None) (name_of name)
dump_form (name ∷ first ∷ count ∷ []) = both (λ n section. Dump n (Some section)) (name_of name) (section_of first count)
dump_form rest = None

-- NAME, or no word for all volumes, with these words behind `on`
abbrev pub table_form : List (List ℕ) → List (List ℕ) → Option Job
table_form behind [] = Some (Tables behind)
table_form behind (name ∷ []) = option_map (λ n. Table n behind) (name_of name)
table_form behind rest = None

-- NAME, the GUID of the group and those of 2 to 64 disks
abbrev pub init_form : List (List ℕ) → Option Job
init_form (name ∷ guid ∷ disks) = all_three Init (new_group_name (name_of name)) (guid_of guid) (many 2 guid_of disks)
init_form rest = None

-- SEED
abbrev pub sample_form : List (List ℕ) → Option Job
sample_form (seed ∷ []) = option_map Sample (number_of seed)
sample_form rest = None

-- a word, and the form of the words behind it
abbrev pub Form : Type 0
Form = List ℕ × (List (List ℕ) → Option Job)

-- The jobs: the first word of each, and its form. A table takes the words behind `on` too.
abbrev pub forms : List (List ℕ) → List Form
forms behind =
    (codes "disk", plain_job (Disk Lines))
    ∷ (codes "records", plain_job (Records Lines))
    ∷ (codes "scan", plain_job (Scan Lines))
    ∷ (codes "show", plain_job (Show Lines))
    ∷ (codes "check", plain_job (Check Lines))
    ∷ (codes "map", map_form)
    ∷ (codes "dump", dump_form)
    ∷ (codes "scrub", named (λ name. Scrub name Lines))
    ∷ (codes "table", table_form behind)
    ∷ (codes "try", plain_job (Try Lines))
    ∷ (codes "edit", plain_job (Edit Lines))
    ∷ (codes "init", init_form)
    ∷ (codes "sample", sample_form)
    ∷ []

-- by the first form of this word; where it has none, the words are a command, each word of which is one token
abbrev pub form_in : List Form → List ℕ → List (List ℕ) → Option Job
form_in [] word rest = option_map (λ command. One command Lines) (command_of (word ∷ rest))
form_in (form ∷ forms) word rest = if bytes_eq word form.0 then form.1 rest else form_in forms word rest

-- ---- options

-- the job whose answer is JSON, over the images of these words; none, where it has no such answer or has it already
abbrev pub as_json : List (List ℕ) → Job → Option Job
as_json paths (Disk Lines) = Some (Disk (Json paths))
as_json paths (Records Lines) = Some (Records (Json paths))
as_json paths (Scan Lines) = Some (Scan (Json paths))
as_json paths (Show Lines) = Some (Show (Json paths))
as_json paths (Check Lines) = Some (Check (Json paths))
as_json paths (Map name first count Lines) = Some (Map name first count (Json paths))
as_json paths (Scrub name Lines) = Some (Scrub name (Json paths))
as_json paths (Try Lines) = Some (Try (Json paths))
as_json paths (Edit Lines) = Some (Edit (Json paths))
as_json paths (One command Lines) = Some (One command (Json paths))
as_json paths _ = None

-- a word, and what it makes of a job that takes it
abbrev pub JobOption : Type 0
JobOption = List ℕ × (Job → Option Job)

-- the options of a job with these words behind `on`
abbrev pub options : List (List ℕ) → List JobOption
options behind = (codes "--json", as_json behind) ∷ []

-- what the word makes of the job, by the first option of this word
abbrev pub optioned_in : List JobOption → List ℕ → Job → Option Job
optioned_in [] word job = None
optioned_in (option ∷ options) word job = if bytes_eq word option.0 then option.1 job else optioned_in options word job

abbrev pub optioned : List (List ℕ) → List ℕ → Option Job → Option Job
optioned behind word None = None
optioned behind word (Some job) = optioned_in (options behind) word job

abbrev pub first_reading : Option Job → Option Job → Option Job
first_reading (Some job) other = Some job
first_reading None other = other

-- the reading of words with up to so many options before them; words that have a reading as they stand are read so
abbrev pub with_options : List (List ℕ) → ℕ → (List (List ℕ) → Option Job) → List (List ℕ) → Option Job
with_options behind zero read words = read words
with_options behind (suc most) read [] = read []
with_options behind (suc most) read (word ∷ words) = first_reading (read (word ∷ words)) (optioned behind word (with_options behind most read words))

-- the job that stands before `on`, with these words behind it; each option may stand once, in any order
abbrev pub job_form : List (List ℕ) → List (List ℕ) → Option Job
job_form [] behind = None
job_form (word ∷ rest) behind = with_options behind (length (options behind)) (form_in (forms behind) word) rest

-- ---- its images

-- as many as a group may have
abbrev pub is_group : ℕ → Bool
is_group images = nat_le 1 images && nat_le images 64

-- how many a job takes behind `on`: those of a group, where nothing else is said
abbrev pub takes : Job → ℕ → Bool
takes (Disk format) images = images == 1
takes (Records format) images = images == 1
takes (Table name words) images = is_group images && images == length words
takes (Tables words) images = is_group images && images == length words
takes (Init name guid disks) images = is_group images && images == length disks
takes (Sample seed) images = false
takes job images = is_group images

-- whether there is no `on`
abbrev pub takes_none : Job → Bool
takes_none (Sample seed) = true
takes_none job = false

abbrev pub fits : Job → Option ℕ → Bool
fits job None = takes_none job
fits job (Some images) = takes job images

-- a job with so many images, where it takes those behind `on`
abbrev pub with_images : ℕ → Option ℕ → Option Job → Option (Job × ℕ)
with_images images behind None = None
with_images images behind (Some job) = if fits job behind then Some (job, images) else None

-- the job of the words, and the number of its images; nothing where they have no reading
unfoldable pub job_of : List (List ℕ) → Option (Job × ℕ)
job_of words = with_images (images_of words) (images_behind words) (job_form (before_first is_on words) (image_words words))

-- ---- what is known of a job that was read

-- how many images a job has
abbrev pub HasCount : Job → ℕ → Type 0
HasCount (Disk format) images = images ≡ 1
HasCount (Records format) images = images ≡ 1
HasCount (Table name words) images = (1 ≤ images) × (images ≤ 64) × (images ≡ length words)
HasCount (Tables words) images = (1 ≤ images) × (images ≤ 64) × (images ≡ length words)
HasCount (Init name guid disks) images = (1 ≤ images) × (images ≤ 64) × (images ≡ length disks)
HasCount (Sample seed) images = images ≡ 0
HasCount job images = (1 ≤ images) × (images ≤ 64)

-- a command of a job, and the words of a new group, keep the grammar's limits
abbrev pub KeepsLimits : Job → Type 0
KeepsLimits (One command format) = IsCommand command
KeepsLimits (Init name guid disks) = AreInitWords name disks
KeepsLimits job = Unit {0}

-- ---- kinds

-- the kinds of jobs, by what they do with the disks and the talk
pub data Kind : Type 0 where
  -- it reads the disks, if it needs any, and then says its answer
  Reads : Kind
  -- it reads the disks, and says its answer while it reads on
  Streams : Kind
  -- it hears a script, reads the disks, and then says a reply to each line
  Hears : Kind
  -- it hears a script, and does each line to the disks and then says the reply
  Edits : Kind
  -- it does one command to the disks, and then says the reply
  Does : Kind
  -- it makes the disks a new group, and then says so
  Makes : Kind

-- the kind of a job: it only reads, where nothing else is said
abbrev pub job_kind : Job → Kind
job_kind (Dump name section) = Streams
job_kind (Scrub name format) = Streams
job_kind (Try format) = Hears
job_kind (Edit format) = Edits
job_kind (One command format) = Does
job_kind (Init name guid disks) = Makes
job_kind job = Reads

-- whether jobs of a kind write to their images
abbrev pub writes : Kind → Bool
writes Reads = false
writes Streams = false
writes Hears = false
writes Edits = true
writes Does = true
writes Makes = true
