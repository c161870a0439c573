-- A volume is new or changed, and its components have new partitions: the rules of the next group.
use Rattle.std.proofs.Common.{◌≡◌, ◌⊎◌, inl, inr, ℕ, ◌+◌, ◌≤◌, List, map, refl, ap, ◌∙◌, arith, false, None, count_by, Contains, le-ltb}
use Rattle.ldm_edits.proofs.Common.{Record, Volume, Partition, is_volume_named, Label, data_size, Taken, taken_of, taken_by, taken_in, AreDisjoint, AllEndWithin}
use Rattle.std.proofs.lemmas.List.{length-map, get_or_default}
use Rattle.std.proofs.lemmas.List.Elements.{All-contains}
use Rattle.std.proofs.lemmas.Bool.{cases_order}
use Rattle.ldm_records.specs.declared.types.Record.TheVariants as kinds
use Rattle.ldm_group.specs.Partitions.{meets}
use Rattle.ldm_group.proofs.KinLaws.{named_there}
use Rattle.ldm_rules.specs.Rules.{first_broken, has_namesake, passes_end}
use Rattle.ldm_rules.proofs.CarryLaws.{KeepsVolume, Carries, carried}
use Rattle.ldm_rules.proofs.GroupLaws.{not_broken, none_by, NoneMeet, none_meet}
use Rattle.ldm_rules.proofs.SoundLaws.{EachRule}
use Rattle.ldm_space.proofs.FreeLaws.{apart_old, apart_new, clash_back}
use Rattle.ldm_group.proofs.ListLaws.{map_at, map_there, flat_there}
use Rattle.ldm_rules.proofs.RemadeLaws.{Share, parts_of, IsRemade, remade_carries}

-- ---- new partitions end within their disks, and meet none of the group

-- new partitions end within their disks, and lie where none was
pub record ArePlaced (labels : List Label) (old next : List Record) (new : List Partition) : Type 0 where
  pub members : (p : Partition) → Contains next (kinds.Partition p) → Contains old (kinds.Partition p) ⊎ Contains new p
  pub within : AllEndWithin (data_size labels old) (map taken_of new)
  pub free : AreDisjoint (taken_in old) (map taken_of new)

-- what a partition takes is taken
taken_there : (records : List Record) (p : Partition) → Contains records (kinds.Partition p) → Contains (taken_in records) (taken_of p)
taken_there records p (k, lt, is) = named_there taken_by records (kinds.Partition p) k (taken_of p) lt (ap taken_by is)

module _ {labels : List Label} {old next : List Record} {new : List Partition} (placed : ArePlaced labels old next new) where
  -- each ends within its disk
  ends_next : first_broken (passes_end (data_size labels old)) old ≡ None
      → first_broken (passes_end (data_size labels old)) next ≡ None
  ends_next sound = none_by (passes_end (data_size labels old)) next (λ g. refl) (λ d. refl) (λ v at. refl) (λ c at. refl)
      (λ p there. elim (placed.members p there) [
        | inl was ↦ not_broken (passes_end (data_size labels old)) old (kinds.Partition p) sound was
        | inr at ↦ le-ltb (data_size labels old p.disk) (p.start + p.size)
            (All-contains (λ (t : Taken). t.start + t.size ≤ data_size labels old t.disk) (map taken_of new)
            (taken_of p) placed.within (map_there taken_of new p at))
      ])

  -- no two meet, where none did
  meetings_next : NoneMeet old → NoneMeet next
  meetings_next apart p q at_p at_q = go (placed.members p at_p) (placed.members q at_q)
    where
      crosses : (r s : Partition) → Contains new r → Contains old (kinds.Partition s) → meets r s ≡ false
      crosses r s at was = apart_old (taken_in old) (map taken_of new) (taken_of r) (taken_of s) placed.free
          (map_there taken_of new r at) (taken_there old s was)

      go : Contains old (kinds.Partition p) ⊎ Contains new p → Contains old (kinds.Partition q) ⊎ Contains new q
          → (q.head.id ≡ p.head.id) ⊎ (meets p q ≡ false)
      go (inl old_p) (inl old_q) = apart p q old_p old_q
      go (inl old_p) (inr new_q) = inr (clash_back (taken_of p) (taken_of q) ∙ crosses q p new_q old_p)
      go (inr new_p) (inl old_q) = inr (crosses p q new_p old_q)
      go (inr (i, lt_i, is_p)) (inr (j, lt_j, is_q)) =
          let t_p = map_at taken_of new i p (taken_of p) lt_i is_p in
          let t_q = map_at taken_of new j q (taken_of p) lt_j is_q in
          let long = length-map new taken_of in
          elim (cases_order i j) [
            | inl same ↦ inl (cc (get_or_default new i q p lt_i))
            | inr (inl low) ↦ inr (clash_back (taken_of p) (taken_of q) ∙ rw (t_q, t_p) at
                (apart_new (taken_in old) (map taken_of new) i j (taken_of p) placed.free low (omega arith)))
            | inr (inr high) ↦ inr (rw (t_p, t_q) at
                (apart_new (taken_in old) (map taken_of new) j i (taken_of p) placed.free high (omega arith)))
          ]

-- the next group keeps the rules where a change carries the others over, the new partitions are placed, and no two volumes have one name
pub placed_carried : (labels : List Label) (old next : List Record) (new : List Partition) → Carries old next
    → EachRule old labels → ArePlaced labels old next new
    → first_broken (has_namesake (λ name. count_by (is_volume_named name) next)) next ≡ None → EachRule next labels
placed_carried labels old next new carries each placed names =
    carried carries labels each names (ends_next placed each.ends) (meetings_next placed (none_meet old each.meetings))

-- ---- components with new partitions

-- a volume that is new or changed leaves the rules kept
pub remade_each : {old next : List Record} {q : ℕ} {w : Volume} {ss : List Share} → IsRemade old next q w ss → KeepsVolume next w → (labels : List Label) → EachRule old labels
    → AllEndWithin (data_size labels old) (map taken_of (parts_of ss))
    → AreDisjoint (taken_in old) (map taken_of (parts_of ss))
    → first_broken (has_namesake (λ name. count_by (is_volume_named name) next)) next ≡ None → EachRule next labels
remade_each {old} {next} {q} {w} {ss} is keeps labels each within free names =
    placed_carried labels old next (parts_of ss) (remade_carries is keeps) each (record {
      members = λ p at. elim (is.back (kinds.Partition p) at) [ inl was ↦ inl was.0 | inr s ↦ inr (flat_there (λ (t : Share). t.parts) ss s.0 p s.1 s.2) ];
      within = within;
      free = free;
    }) names
