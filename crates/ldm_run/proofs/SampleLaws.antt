-- The sample: its script begins no batch, what its host has been through, and its summary.
use Rattle.std.proofs.Common.{[], ◌≡◌, ◌≢◌, IfSome, drop, ℕ, zero, suc, ◌+◌, ◌*◌, ◌/◌, ◌%◌, ◌==◌, ◌&&◌, not, Bool, true, false, cond, List, ◌∷◌, ◌++◌, length, map, filter, codes, decimal, refl, sym, ap, subst, ◌∙◌, append_assoc, arith, count_by, Option, Some, None, Result, Ok, Err, ⊎_elim, ◌-◌, ◌≤◌, ◌<◌, take}
use Rattle.std.specs.Prelude.{bytes_eq, ⊤}
use Rattle.std.specs.List.{slice_split, onto_first, position_or_len}
use Rattle.std.proofs.lemmas.Bool.{and_parts, le-ltb}
use Rattle.std.proofs.lemmas.Bool.Decides.{nat_tests}
use Rattle.ldm_label.specs.declared.Label.{Label}
use Rattle.ldm_group.specs.Database.{Database, Core, core_of, IsSameCore}
use Rattle.ldm_words.specs.declared.command.Command.{Command}
use Rattle.ldm_words.specs.declared.command.Command.TheVariants.{Create, Extend, Delete, Begin, Commit, Cancel}
use Rattle.ldm_words.specs.Commands.{command_of}
use Rattle.ldm_words.specs.Limits.{IsChange}
use Rattle.ldm_words.proofs.LimitLaws.{is_change, one_of}
use Rattle.ldm_lines.specs.Lines.{is_space, is_token, is_newline, lines_of}
use Rattle.ldm_lines.specs.Readings.{alone, line_of}
use Rattle.ldm_lines.proofs.LineLaws.{front_at}
use Rattle.std.proofs.Math.Seq.{take-append_seam, drop-append_seam, take-length}
use Rattle.std.proofs.lemmas.List.{append-nil, length-append}
use Rattle.std.proofs.lemmas.List.Sums.{sum_by-cons}
use Rattle.std.proofs.lemmas.Option.{IfSome_then}
use Rattle.ldm_edits.specs.declared.reply.Refusal.{Refusal}
use Rattle.ldm_edits.specs.declared.reply.Reply.{Reply}
use Rattle.ldm_edits.specs.Counting.{is_done, SequenceCounts}
use Rattle.ldm_edits.specs.Steps.{State, Turn, fresh, next_of, at_once, verdict_of, turn_by, turn_of, turns_of, replies_in, replies_to, group_after}
use Rattle.ldm_vectors.specs.Script as script
use Rattle.ldm_run.specs.Scripts.{command_in, is_refused, is_long_script, commands_in, replies_from, unless_blocked, try_answer}
use Rattle.ldm_run.specs.Sample.{sample_lines, text_of_summary, summary_of, IsSampleAnswer, IsSampleStart, IsSampleHost}
use Rattle.ldm_run.proofs.LineLaws.{line_count, line_count-append, decimal_no_end, reply_lines, replies_length}
use Rattle.ldm_memory.specs.declared.memory.MemoryHost.{MemoryHost}
use Rattle.ldm_host.specs.Moves.{Settled}
use Rattle.ldm_memory.specs.Memory.{memory_seen, host_counts}
use Rattle.ldm_memory.specs.Laws.{law_counts_now, law_one_each, law_may_stay}
use Rattle.ldm_group.specs.Room.{need_of, room_of}
use Rattle.ldm_words.specs.declared.job.Job.TheVariants.{Edit}
use Rattle.ldm_copy.specs.declared.fault.OpenFault.{OpenFault}
use Rattle.ldm_copy.specs.declared.found.Found.{Found}
use Rattle.ldm_found.specs.Opening.{IsGroupIn}
use Rattle.ldm_found.proofs.GroupLaws.{one_group}
use Rattle.ldm_store.proofs.SettleLaws.{same_found}
use Rattle.ldm_words.specs.declared.job.Format.TheVariants.{Lines}
use Rattle.ldm_replies.specs.ReplyJson.{said_replies}
use Rattle.ldm_vectors.specs.Sample.{AreSampleImages, IsSampleGroup, IsSampleDatabase}
use Rattle.ldm_vectors.specs.Script.{script_of}
use Rattle.ldm_words.specs.declared.status.Status.{Status}
use Rattle.ldm_words.specs.declared.status.Status.TheVariants.{Done}
use Rattle.ldm_look.specs.Said.{Answer, HasAnswer}
use Rattle.ldm_look.specs.Looks.{formatted_answer}
use Rattle.ldm_run.specs.Answer.{IsAnswerToScript}
use Rattle.ldm_run.specs.Stops.{lines_unless, commands_of, answered, Reopens}
use Rattle.ldm_run.specs.Written.{HoldsAfter}
use Rattle.ldm_run.specs.Runs.{DoesJob}
use Rattle.ldm_vmdb.proofs.HeaderLaws.{same_header}

-- ---- The lines of the sample script begin no batch: so each of them is done or refused.

-- ---- what a line says

-- no batch is begun
abbrev IsNoBegin : Option Command → Type 0
IsNoBegin line = IfSome line (λ command. command ≢ Begin)

command_no : (tokens : List (List ℕ)) → IsNoBegin (command_of tokens)
command_no tokens = IfSome_then (command_of tokens) (is_change tokens) (λ command is e. subst IsChange e is)

alone_no : (command : Command) (tokens : List (List ℕ)) → command ≢ Begin → IsNoBegin (alone command tokens)
alone_no command [] other = other
alone_no command (token ∷ tokens) other = tt

not_true : (t : Bool) → not t ≡ true → t ≡ false
not_true true is = absurd cc
not_true false is = refl

-- where the first word doesn't begin as `begin`
word_no : (c : ℕ) (part : List ℕ) (tokens : List (List ℕ)) → (c == 0x62) ≡ false → IsNoBegin (line_of ((c ∷ part) ∷ tokens))
unfolding line_of
word_no c part tokens other =
    let word = c ∷ part in
    let third = cond (bytes_eq word (codes "cancel")) (alone Cancel tokens) (command_of (word ∷ tokens)) in
    let second = cond (bytes_eq word (codes "commit")) (alone Commit tokens) third in
    let free : IsNoBegin second =
    one_of (λ c. c ≢ Begin) (bytes_eq word (codes "commit")) (alone Commit tokens) third (alone_no Commit tokens (λ e. cc))
    (one_of (λ c. c ≢ Begin) (bytes_eq word (codes "cancel")) (alone Cancel tokens) (command_of (word ∷ tokens)) (alone_no Cancel tokens (λ e. cc)) (command_no (word ∷ tokens))) in
    subst (λ (t : Bool). IsNoBegin (cond t (alone Begin tokens) second)) (sym (ap (λ (t : Bool). t && bytes_eq part (codes "egin")) other)) free

a_token : (c : ℕ) (part : List ℕ) → is_token (c ∷ part) ≡ true
a_token c part = grind (arith, nat_tests)

first_token : (token : Bool) (word : List ℕ) (rest : List (List ℕ)) → token ≡ true → IsNoBegin (line_of (word ∷ rest)) → IsNoBegin (line_of (cond token (word ∷ rest) rest))
first_token true word rest is says = says
first_token false word rest is says = absurd cc

tokens_no : (c : ℕ) (space : Bool) (parts : List (List ℕ)) → (c == 0x62) ≡ false → space ≡ false → IsNoBegin (line_of (filter is_token (cond space ([] ∷ parts) (onto_first c parts))))
tokens_no c true parts other none = absurd cc
tokens_no c false [] other none = word_no c [] [] other
tokens_no c false (part ∷ parts) other none =
    first_token (is_token (c ∷ part)) (c ∷ part) (filter is_token parts) (a_token c part) (word_no c part (filter is_token parts) other)

-- a byte with which neither `begin` nor a space begins
abbrev is_first : ℕ → Bool
is_first c = not (c == 0x62) && not (c == 0x20)

abbrev Starts : List ℕ → Type 0
Starts [] = Unit {0}
Starts (c ∷ cs) = is_first c ≡ true

line_no : (line : List ℕ) → Starts line → IsNoBegin (command_in line)
unfolding line_of
line_no [] start = tt
line_no (c ∷ cs) start =
    let parts = and_parts (not (c == 0x62)) (not (c == 0x20)) start in
    tokens_no c (is_space c) (slice_split is_space cs) (not_true (c == 0x62) parts.0) (not_true (c == 0x20) parts.1)

abbrev AllNoBegin : List (Option Command) → Type 0
AllNoBegin [] = Unit {0}
AllNoBegin (line ∷ lines) = IsNoBegin line × AllNoBegin lines

-- ---- the sample script

position_at : (front t : List ℕ) → line_count front ≡ 0 → position_or_len is_newline (front ++ 0x0A ∷ t) ≡ length front
position_at [] t none = refl
position_at (c ∷ front) t none = let one = line_count-append (c ∷ []) front in grind (arith, nat_tests, position_at front t)

front_line : (front t : List ℕ) → line_count front ≡ 0 → lines_of (front ++ 0x0A ∷ t) ≡ front ∷ lines_of t
front_line front t none =
    let script = front ++ 0x0A ∷ t in
    let size : length script ≡ length front + suc (length t) = length-append front (0x0A ∷ t) in
    let is = front_at script (length front) (sym (position_at front t none)) (omega (arith, size)) in
    let whole : (front ++ 0x0A ∷ []) ++ t ≡ script = append_assoc front (0x0A ∷ []) t in
    let count : length (front ++ 0x0A ∷ []) ≡ length front + 1 = length-append front (0x0A ∷ []) in
    let left : drop (length front + 1) script ≡ t =
    ap (λ (n : ℕ). drop n script) (sym count) ∙ ap (λ (l : List ℕ). drop (length (front ++ 0x0A ∷ [])) l) (sym whole) ∙ drop-append_seam (front ++ 0x0A ∷ []) t in
    is.lines_are ∙ ap (λ (l : List ℕ). l ∷ lines_of (drop (length front + 1) script)) (take-append_seam front (0x0A ∷ t)) ∙ ap (λ (l : List ℕ). front ∷ lines_of l) left

-- none of its lines begins a batch
abbrev IsFree : List ℕ → Type 0
IsFree script = AllNoBegin (map command_in (lines_of script))

one_more : (front t : List ℕ) → Starts front → line_count front ≡ 0 → IsFree t → IsFree ((front ++ 0x0A ∷ []) ++ t)
one_more front t start none rest =
    subst (λ (lines : List (List ℕ)). AllNoBegin (map command_in lines)) (sym (ap lines_of (append_assoc front (0x0A ∷ []) t) ∙ front_line front t none)) (line_no front start, rest)

span_starts : (line value : ℕ) (t : List ℕ) → IsFree t → IsFree (script.span_line line value ++ t)
span_starts line value t =
    one_more (codes "create V" ++ decimal line ++ codes " eeeeeeee-eeee-eeee-eeee-eeeeeeeeeeee span Disk"
    ++ decimal (1 + value % 3) ++ codes "=" ++ decimal (1 + value / 3 % 64)) t refl
    (omega (arith, line_count-append, decimal_no_end))

mirror_starts : (line value : ℕ) (t : List ℕ) → IsFree t → IsFree (script.mirror_line line value ++ t)
mirror_starts line value t =
    let c = codes "create V" ++ decimal line ++ codes " eeeeeeee-eeee-eeee-eeee-eeeeeeeeeeee mirror "
    ++ decimal (1 + value % 64) in
    subst (λ (l : List ℕ). IsFree t → IsFree (l ++ t)) (append_assoc c (codes " Disk1 Disk2") (0x0A ∷ []))
    (one_more (c ++ codes " Disk1 Disk2") t refl (omega (arith, line_count-append, decimal_no_end)))

extend_starts : (line value : ℕ) (t : List ℕ) → IsFree t → IsFree (script.extend_line line value ++ t)
extend_starts line value t =
    one_more (codes "extend V" ++ decimal (1 + value % line) ++ codes " Disk" ++ decimal (1 + value / 512 % 3)
    ++ codes "=" ++ decimal (1 + value % 64)) t refl (omega (arith, line_count-append, decimal_no_end))

delete_starts : (line value : ℕ) (t : List ℕ) → IsFree t → IsFree (script.delete_line line value ++ t)
delete_starts line value t =
    one_more (codes "delete V" ++ decimal (1 + value % line)) t refl (omega (arith, line_count-append, decimal_no_end))

either_starts : (b : Bool) (x y t : List ℕ) → IsFree (x ++ t) → IsFree (y ++ t) → IsFree ((cond b x y) ++ t)
either_starts true x y t one two = one
either_starts false x y t one two = two

line_starts : (line kind value : ℕ) (t : List ℕ) → IsFree t → IsFree (script.sample_line line kind value ++ t)
line_starts line kind value t rest =
    let third = cond (kind % 4 == 2) (script.extend_line line value) (script.delete_line line value) in
    let second = cond (kind % 4 == 1) (script.mirror_line line value) third in
    either_starts (kind % 4 == 0) (script.span_line line value) second t (span_starts line value t rest)
    (either_starts (kind % 4 == 1) (script.mirror_line line value) third t (mirror_starts line value t rest)
    (either_starts (kind % 4 == 2) (script.extend_line line value) (script.delete_line line value) t (extend_starts line value t rest) (delete_starts line value t rest)))

seed_starts : (seed lines : ℕ) (t : List ℕ) → IsFree t → IsFree (script.lines_of_seed seed lines ++ t)
unfolding script.lines_of_seed
seed_starts seed zero t rest = rest
seed_starts seed (suc lines) t rest =
    let line = script.sample_line (lines + 1) (script.draw seed (2 * lines + 1)) (script.draw seed (2 * lines + 2)) in
    subst (λ (l : List ℕ). IsFree l) (sym (append_assoc (script.lines_of_seed seed lines) line t))
    (seed_starts seed lines (line ++ t) (line_starts (lines + 1) (script.draw seed (2 * lines + 1)) (script.draw seed (2 * lines + 2)) t rest))

sample_no : (seed : ℕ) → AllNoBegin (sample_lines seed)
unfolding lines_of
sample_no seed = subst (λ (l : List ℕ). IsFree l) (append-nil (script.script_of seed)) (seed_starts seed 200 [] tt)

-- ---- the replies

abbrev pub is_undone : Reply → Bool
is_undone reply = not (is_done reply)

-- no batch is open after the line, and it is done or refused
abbrev IsPlain : Turn → Type 0
IsPlain turn = (turn.state.draft ≡ None) × (is_undone turn.reply ≡ is_refused turn.reply)

once_plain : (db : Database) (step : Result Database Refusal) → IsPlain (turn_by (fresh db) (at_once step))
once_plain db (Ok next) = (refl, refl)
once_plain db (Err refusal) = (refl, refl)

line_plain : (labels : List Label) (db : Database) (line : Option Command) → IsNoBegin line → IsPlain (turn_of labels (fresh db) line)
unfolding verdict_of
line_plain labels db (Some Begin) free = absurd (free refl)
line_plain labels db (Some (Create name guid layout)) free = once_plain db (next_of db labels (Create name guid layout))
line_plain labels db (Some (Extend name pieces)) free = once_plain db (next_of db labels (Extend name pieces))
line_plain labels db (Some (Delete name)) free = once_plain db (next_of db labels (Delete name))
line_plain labels db line free = (refl, refl)

count_plain : (reply : Reply) (all : List Reply) → is_undone reply ≡ is_refused reply → count_by is_undone all ≡ count_by is_refused all → count_by is_undone (reply ∷ all) ≡ count_by is_refused (reply ∷ all)
count_plain reply all same rest =
    sum_by-cons (λ (r : Reply). cond (is_undone r) 1 0) reply all ∙ (λ i. cond (same i) 1 0 + rest i) ∙ sym (sum_by-cons (λ (r : Reply). cond (is_refused r) 1 0) reply all)

all_plain : (labels : List Label) (db : Database) (lines : List (Option Command)) → AllNoBegin lines
    → count_by is_undone (replies_in labels (fresh db) lines) ≡ count_by is_refused (replies_in labels (fresh db) lines)
unfolding turns_of
all_plain labels db [] free = refl
all_plain labels db (line ∷ lines) free =
    let turn = turn_of labels (fresh db) line in
    let plain = line_plain labels db line free.0 in
    let state : turn.state ≡ fresh turn.state.db = λ i. record { db = turn.state.db; draft = plain.0 i } in
    count_plain turn.reply (replies_in labels turn.state lines) plain.1
    (subst (λ (s : State). count_by is_undone (replies_in labels s lines) ≡ count_by is_refused (replies_in labels s lines)) (sym state) (all_plain labels turn.state.db lines free.1))

-- what isn't done of the sample script is refused
pub undone_refused : (labels : List Label) (db : Database) (seed : ℕ)
    → count_by is_undone (replies_to labels db (sample_lines seed)) ≡ count_by is_refused (replies_to labels db (sample_lines seed))
undone_refused labels db seed = all_plain labels db (sample_lines seed) (sample_no seed)

-- ---- What a host in memory has been through that did the sample script, and its summary.

-- ---- one answer

one_database : (disks last : ℕ) (a b : Database) → IsSampleDatabase disks last a → IsSampleDatabase disks last b → a ≡ b
one_database disks last a b x y =
    let p = x.header_is in
    let q = y.header_is in
    let header = same_header a.header b.header (p.last_is ∙ sym q.last_is) (p.seq_is ∙ sym q.seq_is) (p.name_is ∙ sym q.name_is) (p.guid_is ∙ sym q.guid_is) (p.raw_is ∙ sym q.raw_is) in
    let records = x.records_are ∙ sym y.records_are in
    λ i. record { header = header i; records = records i }

pub one_sample : (seed : ℕ) (a b : Answer) → IsSampleAnswer seed a → IsSampleAnswer seed b → a ≡ b
one_sample seed a b x y =
    let databases = one_database 3 512 x.0.db y.0.db x.1.database y.1.database in
    let labels = x.1.labels_are ∙ sym y.1.labels_are in
    let of : List Label → Database → Answer = λ labels db. (summary_of seed (replies_to labels db (sample_lines seed)) (group_after labels db (sample_lines seed)), Done) in
    x.2 ∙ ap (λ (l : List Label). of l x.0.db) labels ∙ ap (λ (d : Database). of y.0.labels d) databases ∙ sym y.2

-- ---- the host

-- a host in memory at this moment, which is one since its start
pub holds_now : (m : MemoryHost) → (memory_seen m).left_since 0 (memory_seen m).content (memory_seen m).said
holds_now m = law_counts_now m 0 (memory_seen m).content (omega arith) (record { one_each = law_one_each m; each = λ disk lt. law_may_stay m disk })

module _ {seed : ℕ} {start : MemoryHost} (host : MemoryHost) {status : Status} {found : Found} (starts : IsSampleStart seed found start) (short : length (script_of seed) ≤ 20000)
    (does : DoesJob ⊤ ⊤ (Edit Lines) (memory_seen start) (memory_seen host) status) (has : HasAnswer status) (dry : (host_counts host).dry ≡ 0) (first : (memory_seen start).left_since 0 (memory_seen start).content (memory_seen start).said) where
  not_long : is_long_script (memory_seen start).input ≡ false
  not_long = le-ltb 1048576 (length (memory_seen start).input) (rw starts.input (omega (arith, short)))

  lines_are : commands_of (Edit Lines) (memory_seen start).input ≡ sample_lines seed
  lines_are = ap (λ (b : Bool). lines_unless b (memory_seen start).input) not_long ∙ ap commands_in starts.input

  heard_all : (memory_seen host).input ≡ []
  heard_all = ⊎_elim (λ none. none) (λ long. absurd (let few = starts.input in omega (arith, long, short, ap length starts.input))) ((does.talk.input tt).whole has)

  heard_is : (memory_seen host).heard.bytes ≡ script_of seed
  heard_is =
      let takes = (does.talk.input tt).takes in
      let taken = (does.talk.input tt).taken in
      takes.heard ∙ ap (λ (l : List ℕ). l ++ taken) starts.heard ∙ sym (append-nil taken) ∙ ap (λ (l : List ℕ). taken ++ l) (sym heard_all) ∙ sym takes.input ∙ starts.input

  text_is : (answer : Answer) → IsAnswerToScript Lines (is_long_script (memory_seen start).input) (memory_seen start).input (memory_seen start).content answer
      → answer.0 ≡ said_replies Lines 1 (replies_to found.labels found.db (sample_lines seed))
  text_is answer is =
      let of_group = subst (λ (b : Bool). IsAnswerToScript Lines b (memory_seen start).input (memory_seen start).content answer) not_long is in
      let same : of_group.0 ≡ Ok found = one_group (memory_seen start).content of_group.0 (Ok found) of_group.1 starts.holds in
      ap (λ (a : Answer). a.0) (
      of_group.2
      ∙ ap (formatted_answer Lines (try_answer Lines (commands_in (memory_seen start).input))) same
      ∙ ap (λ (script : List ℕ). try_answer Lines (commands_in script) found) starts.input
      ∙ ap (λ (blocked : Option OpenFault). unless_blocked Lines blocked (replies_from Lines 1 (replies_to found.labels found.db (sample_lines seed)))) starts.group.blocked_is)

  said_is : (memory_seen host).said ≡ said_replies Lines 1 (replies_to found.labels found.db (sample_lines seed))
  said_is =
      let whole = (does.ends.answers tt).whole has in
      whole.2.said ∙ ap (λ (l : List ℕ). l ++ whole.0.0) starts.said ∙ text_is whole.0 whole.1

  pub sampled : IsSampleHost seed host
  sampled = record {
    start = start;
    found = found;
    starts = starts;
    sizes = does.disks.later.sizes;
    heard = heard_is;
    input = heard_all;
    said = said_is;
    dry = dry;
    disks = subst (λ (l : List (Option Command)). HoldsAfter found l (memory_seen start).content (memory_seen host)) lines_are (does.disks.done tt has not_long found starts.holds starts.group.blocked_is);
    first = does.disks.later.keeps 0 (memory_seen start).content [] (omega arith) (subst (λ (l : List ℕ). (memory_seen start).left_since 0 (memory_seen start).content l) starts.said first);
    stops = λ images said left.
        subst (λ (l : List (Option Command)). Reopens found.labels found.db l (memory_seen start) images said) lines_are
        (does.stops tt starts.settled found starts.holds starts.group.blocked_is images said (subst (λ (t : ℕ). (memory_seen host).left_since t images said) (sym starts.clock) left));
  }

-- a host that was made of the sample images and the sample script
pub started : {seed : ℕ} {host : MemoryHost} (images : List (List ℕ)) (found : Found) → AreSampleImages 3 512 images → IsGroupIn images (Ok found) → IsSampleGroup 3 512 found → (memory_seen host).content ≡ images
    → ((disk : ℕ) → Settled (memory_seen host) disk) → (memory_seen host).clock ≡ 0 → (memory_seen host).said ≡ [] → (memory_seen host).heard.bytes ≡ [] → (memory_seen host).input ≡ script_of seed → IsSampleStart seed found host
started {seed} {host} images found made holds group content settled clock said heard input = record {
  images = subst (λ (l : List (List ℕ)). AreSampleImages 3 512 l) (sym content) made;
  holds = subst (λ (l : List (List ℕ)). IsGroupIn l (Ok found)) (sym content) holds;
  group = group;
  settled = λ disk lt. settled disk;
  clock = clock;
  said = said;
  heard = heard;
  input = input;
}

-- it has disks
pub some_disk : {seed : ℕ} {host : MemoryHost} → IsSampleHost seed host → 0 < length (memory_seen host).sizes
some_disk {seed} {host} is =
    let three = is.starts.images.images_are.count in
    let one_each = law_one_each is.start in
    let sizes = ap length is.sizes in
    omega (arith, three, one_each, sizes)

-- ---- the summary

one_or_other : (b : Bool) → cond b 1 0 + cond (not b) 1 0 ≡ 1
one_or_other true = refl
one_or_other false = refl

done_or_undone : (all : List Reply) → count_by is_done all + count_by is_undone all ≡ length all
done_or_undone [] = refl
done_or_undone (reply ∷ all) =
    let done = sum_by-cons (λ (r : Reply). cond (is_done r) 1 0) reply all in
    let undone = sum_by-cons (λ (r : Reply). cond (is_undone r) 1 0) reply all in
    let one = one_or_other (is_done reply) in
    let rest = done_or_undone all in
    omega (arith, done, undone, one, rest)

module _ {seed : ℕ} {host : MemoryHost} {other : Found} (is : IsSampleHost seed host) (holds : IsGroupIn (memory_seen host).content (Ok other))
    (now : (memory_seen host).left_since 0 (memory_seen host).content (memory_seen host).said) (counts : SequenceCounts) where
  pub lines_said : line_count (memory_seen host).said ≡ length (replies_to is.found.labels is.found.db (sample_lines seed))
  lines_said = ap line_count is.said ∙ reply_lines Lines 1 (replies_to is.found.labels is.found.db (sample_lines seed))

  all_answered : answered (sample_lines seed) (memory_seen is.start) (memory_seen host).said ≡ length (sample_lines seed)
  all_answered =
      let count = lines_said ∙ replies_length is.found.labels is.found.db (sample_lines seed) in
      rw is.starts.said (let c = count in omega (arith, c))

  reopens : Reopens is.found.labels is.found.db (sample_lines seed) (memory_seen is.start) (memory_seen host).content (memory_seen host).said
  reopens = is.stops (memory_seen host).content (memory_seen host).said now

  all_lines : take reopens.prefix (sample_lines seed) ≡ sample_lines seed
  all_lines =
      let few = reopens.few in
      let all = all_answered in
      let enough : reopens.prefix ≡ length (sample_lines seed) = ⊎_elim (λ e. omega (arith, e, all)) (λ e. omega (arith, e, all, few)) reopens.each_answered in
      ap (λ (n : ℕ). take n (sample_lines seed)) enough ∙ take-length (sample_lines seed)

  pub same_group : IsSameCore other.db (group_after is.found.labels is.found.db (sample_lines seed))
  same_group =
      let same = same_found (memory_seen host).content other reopens.opens.found holds reopens.opens.is in
      ap (λ (f : Found). core_of f.db) same ∙ reopens.opens.same ∙ ap (λ (l : List (Option Command)). core_of (group_after is.found.labels is.found.db l)) all_lines

  -- each line that was done took the sequence one further
  pub sequence_is : other.db.header.seq ≡ 7 + count_by is_done (replies_to is.found.labels is.found.db (sample_lines seed))
  sequence_is = ap (λ (c : Core). c.seq) same_group ∙ counts is.found.labels is.found.db (sample_lines seed) ∙ ap (λ (n : ℕ). n + count_by is_done (replies_to is.found.labels is.found.db (sample_lines seed))) is.starts.group.database.header_is.seq_is

  pub lines_are_enough : other.db.header.seq ≤ 7 + line_count (memory_seen host).said
  lines_are_enough =
      let all = done_or_undone (replies_to is.found.labels is.found.db (sample_lines seed)) in
      let up = sequence_is in
      let said = lines_said in
      omega (arith, all, up, said)

  pub summarized : (text : List ℕ) (done refused : ℕ) → done ≡ other.db.header.seq - 7 → refused ≡ line_count (memory_seen host).said - done
      → text ≡ text_of_summary seed done refused other.db.header.seq (need_of other.db.records) (room_of other.db.header.last) → IsSampleAnswer seed (text, Done)
  summarized text done refused done_is refused_is text_is =
      let all = done_or_undone (replies_to is.found.labels is.found.db (sample_lines seed)) in
      let up = sequence_is in
      let said = lines_said in
      let one : done ≡ count_by is_done (replies_to is.found.labels is.found.db (sample_lines seed)) = omega (arith, up, done_is) in
      let undone = undone_refused is.found.labels is.found.db seed in
      let two : refused ≡ count_by is_refused (replies_to is.found.labels is.found.db (sample_lines seed)) = omega (arith, all, one, said, refused_is, undone) in (
        is.found,
        is.starts.group,
        ap (λ (t : List ℕ). (t, Done)) (
            text_is
            ∙ ap (λ (n : ℕ). text_of_summary seed n refused other.db.header.seq (need_of other.db.records) (room_of other.db.header.last)) one
            ∙ ap (λ (n : ℕ). text_of_summary seed (count_by is_done (replies_to is.found.labels is.found.db (sample_lines seed))) n other.db.header.seq (need_of other.db.records) (room_of other.db.header.last)) two
            ∙ ap (λ (c : Core). text_of_summary seed (count_by is_done (replies_to is.found.labels is.found.db (sample_lines seed))) (count_by is_refused (replies_to is.found.labels is.found.db (sample_lines seed))) c.seq (need_of c.records) (room_of c.last)) same_group),
      )
