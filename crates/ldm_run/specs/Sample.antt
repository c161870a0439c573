-- The sample: the sample script of a seed, done as an edit to the group of three sample images, in memory.
use Rattle.std.specs.Prelude.{◌≡◌, ℕ, List, [], ◌++◌, codes, decimal, count_by, Option, Ok}
use Rattle.ldm_memory.specs.declared.memory.MemoryHost.{MemoryHost}
use Rattle.ldm_memory.specs.Memory.{memory_seen, host_counts}
use Rattle.ldm_group.specs.Database.{Database}
use Rattle.ldm_group.specs.Room.{need_of, room_of}
use Rattle.ldm_words.specs.declared.command.Command.{Command}
use Rattle.ldm_edits.specs.declared.reply.Reply.{Reply}
use Rattle.ldm_edits.specs.Counting.{is_done}
use Rattle.ldm_edits.specs.Steps.{group_after, replies_to}
use Rattle.ldm_copy.specs.declared.found.Found.{Found}
use Rattle.ldm_found.specs.Opening.{IsGroupIn}
use Rattle.ldm_words.specs.declared.job.Format.TheVariants.{Lines}
use Rattle.ldm_replies.specs.ReplyJson.{said_replies}
use Rattle.ldm_vectors.specs.Sample.{AreSampleImages, IsSampleGroup}
use Rattle.ldm_vectors.specs.Script.{script_of}
use Rattle.ldm_words.specs.declared.status.Status.TheVariants.{Done}
use Rattle.ldm_look.specs.Said.{Answer}
use Rattle.ldm_run.specs.Scripts.{commands_in, is_refused}
use Rattle.ldm_run.specs.Kinds.{NothingPending}
use Rattle.ldm_run.specs.Stops.{Reopens}
use Rattle.ldm_run.specs.Written.{HoldsAfter}

-- ---- the answer

-- how many lines were done and refused
abbrev pub text_of_counts : (seed done refused : ℕ) → List ℕ
text_of_counts seed done refused = codes "sample " ++ decimal seed ++ codes " ok " ++ decimal done ++ codes " refused " ++ decimal refused

-- the group's sequence, and how many blocks it has and needs, as text
abbrev pub text_of_sample : (seq need room : ℕ) → List ℕ
text_of_sample seq need room = codes " sequence " ++ decimal seq ++ codes " blocks " ++ decimal need ++ codes " of " ++ decimal room ++ codes "\n"

abbrev pub text_of_summary : (seed done refused seq need room : ℕ) → List ℕ
text_of_summary seed done refused seq need room = text_of_counts seed done refused ++ text_of_sample seq need room

-- of these replies, after which the group is this
abbrev pub summary_of : ℕ → List Reply → Database → List ℕ
summary_of seed replies db =
    text_of_summary seed (count_by is_done replies) (count_by is_refused replies) db.header.seq (need_of db.records) (room_of db.header.last)

-- what each line of the script says
abbrev pub sample_lines : ℕ → List (Option Command)
sample_lines seed = commands_in (script_of seed)

abbrev pub sample_answer : ℕ → Found → Answer
sample_answer seed found =
    (summary_of seed (replies_to found.labels found.db (sample_lines seed)) (group_after found.labels found.db (sample_lines seed)), Done)

-- the summary of the script, done to the group of three sample images
abbrev pub IsSampleAnswer : ℕ → Answer → Type 0
IsSampleAnswer seed answer = (found : Found) × IsSampleGroup 3 512 found × (answer ≡ sample_answer seed found)

-- ---- the host

-- A host of the sample images, in which this group is found, with the script still to be heard. Nothing happened to it yet.
pub record IsSampleStart (seed : ℕ) (found : Found) (host : MemoryHost) : Type 0 where
  pub images : AreSampleImages 3 512 (memory_seen host).content
  pub holds : IsGroupIn (memory_seen host).content (Ok found)
  pub group : IsSampleGroup 3 512 found
  pub settled : NothingPending (memory_seen host)
  pub clock : (memory_seen host).clock ≡ 0
  pub said : (memory_seen host).said ≡ []
  pub heard : (memory_seen host).heard.bytes ≡ []
  pub input : (memory_seen host).input ≡ script_of seed

-- Such a host after the edit: the script is heard, and just the replies are said. Each copy is open with the group after all
-- lines, with the carried bytes of the header that was found where it was rewritten, and nothing is pending. No call found too little memory. At each moment since the start what a stop could leave
-- reopens, and one of these moments is the start itself.
pub record IsSampleHost (seed : ℕ) (host : MemoryHost) : Type 0 where
  pub start : MemoryHost
  pub found : Found
  pub starts : IsSampleStart seed found start
  pub sizes : (memory_seen host).sizes ≡ (memory_seen start).sizes
  pub heard : (memory_seen host).heard.bytes ≡ script_of seed
  pub input : (memory_seen host).input ≡ []
  pub said : (memory_seen host).said ≡ said_replies Lines 1 (replies_to found.labels found.db (sample_lines seed))
  pub dry : (host_counts host).dry ≡ 0
  pub disks : HoldsAfter found (sample_lines seed) (memory_seen start).content (memory_seen host)
  pub first : (memory_seen host).left_since 0 (memory_seen start).content []
  pub stops : (images : List (List ℕ)) (said : List ℕ) → (memory_seen host).left_since 0 images said
      → Reopens found.labels found.db (sample_lines seed) (memory_seen start) images said
