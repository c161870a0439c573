-- What stands against a change that all commands have in common, and what one within it keeps.
use Rattle.std.proofs.Common.{◌≡◌, ℕ, ◌+◌, ◌-◌, ◌^◌, ◌<◌, ◌≤◌, ◌++◌, List, [], ◌∷◌, refl, sym, ap, ◌∙◌, arith, Bool, true, false, Some, None, Err, length, get_or, min, Ok, unwrap_or, lt-ltb, le-ltb, append-nil}
use Rattle.ldm_edits.proofs.Common.{first_of, Record, Label, Database, max_id, own_len, need_of, IsFitting, last_for, Rising, least, IsSoundOn}
use Rattle.std.specs.Option.{option_map}
use Rattle.std.proofs.lemmas.Grind.{common_steps}
use Rattle.std.proofs.lemmas.List.Sums.{sum_by-append}
use Rattle.ldm_vmdb.specs.Parts.{parts_of}
use Rattle.ldm_group.specs.Room.{IsLastFor, room_of}
use Rattle.ldm_edits.specs.declared.reply.Refusal.{Refusal}
use Rattle.ldm_edits.specs.declared.reply.Refusal.TheVariants as refusals
use Rattle.ldm_edits.specs.Changes.{Change, need_in, most_blocks, when, long_id, limits, later_limits, changed, change_to, least_in}
use Rattle.std.proofs.lemmas.List.{map-append}
use Rattle.std.proofs.lemmas.List.Elements.{filter-append, filter_map-append, Contains-get_or, All-append, All-cons, All-nil}
use Rattle.std.proofs.lemmas.List.Sorted.{All-permutation}
use Rattle.ldm_group.proofs.InOrder.{in_order_same}
use Rattle.std.specs.List.{All}
use Rattle.ldm_records.specs.Plain.{own_spelling}
use Rattle.ldm_records.specs.Views.{plain_of}
use Rattle.ldm_group.proofs.LastLaws.{last_grows}
use Rattle.ldm_rules.specs.Table.{IsSound}
use Rattle.ldm_rules.proofs.PresentLaws.{same_stranger}
use Rattle.ldm_rules.proofs.CarryLaws.{Carries, heads}
use Rattle.ldm_rules.proofs.GroupLaws.{same_disks}
use Rattle.ldm_rules.proofs.SoundLaws.{EachRule, sound_from, layout_there, ends_in_range}
use Rattle.ldm_edits.specs.Steps.{FitsAsBefore, Keeps}
use Rattle.ldm_edits.proofs.AreaLaws.{least_of}
use Rattle.ldm_group.proofs.AddedLaws.{next_room}

-- ---- The limits, one by one.

-- the blocks of two lists
pub need_both : (stay made : List Record) (a b : ℕ) → a ≡ need_of stay → b ≡ need_of made → a + b ≡ need_of (stay ++ made)
need_both stay made a b one two = (let both = sum_by-append (λ (r : Record). parts_of (own_len r)) stay made in omega arith)

module _ (db : Database) (labels : List Label) (fresh : ℕ) (change : Change) where
  -- the ids are left
  pub ids_left : max_id db.records + fresh ≤ 2 ^ 64 - 1
      → first_of (later_limits db labels change) ≡ first_of (limits db labels fresh change)
  unfolding limits
  ids_left few = rw (le-ltb (2 ^ 64 - 1) (max_id db.records + fresh) few)

  -- or spent, so a change with so many new records is refused
  pub change_spent : 2 ^ 64 - 1 < max_id db.records + fresh → change_to db labels fresh change ≡ Err refusals.IdsSpent
  unfolding limits
  change_spent more = rw (lt-ltb (2 ^ 64 - 1) (max_id db.records + fresh) more)

-- ---- The least id of the records that are too long, as a walk finds it.

least_push : (m : ℕ) (ns : List ℕ) (n : ℕ) → least (m ∷ (ns ++ n ∷ [])) ≡ min n (least (m ∷ ns))
least_push m [] n = omega arith
least_push m (k ∷ ns) n = (let rest = least_push k ns n in omega arith)

-- the least with one more number
pub least_in_push : (ns : List ℕ) (n : ℕ) → least_in (ns ++ n ∷ []) ≡ Some (unwrap_or (option_map (λ m. min n m) (least_in ns)) n)
least_in_push [] n = refl
least_in_push (m ∷ ns) n = ap (λ (k : ℕ). Some k) (least_push m ns n)

-- what is kept of one record more
pub ruleset kept = (filter-append, filter_map-append, map-append, append-nil, least_in_push)

-- ---- What the limits say that all commands have in common, and what a command that none refuses makes.

pub not_when : (b : Bool) (r : Refusal) → when b r ≡ None → b ≡ false
not_when true r h = absurd cc
not_when false r h = refl

-- none of two reasons holds
pub two_open : (a b : Bool) (r s : Refusal) → first_of (when a r ∷ (when b s ∷ [])) ≡ None → (a ≡ false) × (b ≡ false)
two_open false false r s h = (refl, refl)
two_open _ _ r s h = absurd cc

-- ---- the limits

pub record IsWithinLimits (db : Database) (labels : List Label) (fresh : ℕ) (change : Change) : Type 0 where
  pub ids : max_id db.records + fresh ≤ 2 ^ 64 - 1
  pub each : All IsFitting change.made
  pub room : need_in change ≤ most_blocks labels
  pub seq : db.header.seq ≡ 2 ^ 64 - 1 → ⊥

pub none_long : (made : List Record) → option_map refusals.TooLong (long_id made) ≡ None → All IsFitting made
none_long [] h = All-nil IsFitting
none_long (r ∷ made) h = All-cons IsFitting r made (grind (arith, common_steps)) (none_long made (grind (arith, common_steps)))

pub within_limits : (db : Database) (labels : List Label) (fresh : ℕ) (change : Change) → first_of (limits db labels fresh change) ≡ None → IsWithinLimits db labels fresh change
unfolding limits
within_limits db labels fresh change h = record {
  ids = grind (arith, common_steps);
  each = none_long change.made (grind (arith, common_steps));
  room = grind (arith, common_steps);
  seq = grind (arith, common_steps);
}

-- ---- room

-- the own spelling of a record that fits
pub spelled_by : (r : Record) → IsFitting r → length (own_spelling (plain_of r)) ≤ 448
unfolding own_len
spelled_by r fits = fits

-- ---- What a command keeps of a group, where no limit refuses it and the next records keep the rules.

-- the last VBLK sequence of what is needed, in an area that is large enough for all
grown : (last need : ℕ) → IsLastFor (last + need + 2) last need (last_for last need)
grown last need = last_grows (last + need + 2) last need (omega arith) (omega arith)

-- the next one fits each area that the one before fits
next_last : (labels : List Label) (last need : ℕ) → need ≤ most_blocks labels → FitsAsBefore labels last (last_for last need)
next_last labels last need few k d lt fits =
    let low = least_of labels (get_or labels k d) (Contains-get_or labels k d lt) in
    (last_grows (get_or labels k d).area_sectors last need (omega arith) fits).fits

-- what is known of a group that a command changes
pub record IsGiven (db : Database) (labels : List Label) : Type 0 where
  pub up : Rising db.records
  pub low : All (λ l. l.data_size < 2 ^ 64) labels
  pub sound : IsSoundOn db labels
  pub small : db.header.last < 2 ^ 32

-- where no limit refuses a change, and the rules are carried over
pub carried_keeps : (db : Database) (labels : List Label) (fresh : ℕ) (change : Change) → IsGiven db labels → All IsFitting change.stay → first_of (limits db labels fresh change) ≡ None
    → Carries db.records (changed db change).records → EachRule (changed db change).records labels
    → Keeps labels db (changed db change)
carried_keeps db labels fresh change given stay open' carries each =
    let next : List Record = (changed db change).records in
    let all : List Record = change.stay ++ change.made in
    let within = within_limits db labels fresh change open' in
    let sound : IsSound next labels = sound_from next labels each in
    let disks = same_disks db.records next (heads carries) in
    record {
      sound = record {
        sound = sound;
        ends = ends_in_range next labels given.low sound;
        laid_out = λ v there. layout_there next labels v sound there;
        room = record {
          need = next_room all (room_of (last_for db.header.last (need_in change))) (grown db.header.last (need_in change)).holds;
          each = All-permutation IsFitting all _ (in_order_same all) (All-append IsFitting _ _ stay within.each);
        };
        apart = given.sound.apart;
        own = sym (same_stranger db.records next labels disks) ∙ given.sound.own;
      };
      disks = disks;
      rises = (grown db.header.last (need_in change)).rises;
      fits = next_last labels db.header.last (need_in change) within.room;
      header = refl;
      seq = refl;
    }

-- ---- commands

-- nothing refuses a command: what it changes, which keeps what such a group had where the command is of the grammar
pub record IsDone (db : Database) (labels : List Label) (next : Database) (Grammar : Type 0) : Type 0 where
  pub change : Change
  pub next_is : changed db change ≡ next
  pub keeps : IsGiven db labels → Grammar → Keeps labels db next

-- what no limit refuses is done
pub done_by : {Grammar : Type 0} (db : Database) (labels : List Label) (fresh : ℕ) (change : Change) (next : Database) → change_to db labels fresh change ≡ Ok next
    → (first_of (limits db labels fresh change) ≡ None → IsGiven db labels → Grammar → Keeps labels db (changed db change)) → IsDone db labels next Grammar
done_by db labels fresh change next h keeps =
    let within : first_of (limits db labels fresh change) ≡ None = grind (arith, common_steps) in
    let made : changed db change ≡ next = grind (arith, common_steps) in
    record { change = change; next_is = made; keeps = λ given grammar. rw made at (keeps within given grammar) }
