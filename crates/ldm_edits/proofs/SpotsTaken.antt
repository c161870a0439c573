-- What is taken when a volume grows: its partitions stay, and the new ones take the spots that were found for them.
use Rattle.std.proofs.Common.{◌≡◌, ℕ, ◌+◌, ◌-◌, ◌^◌, ◌≤◌, ◌++◌, List, [], ◌∷◌, refl, ap, ◌∙◌, false, map}
use Rattle.ldm_edits.proofs.Common.{Record, Volume, Partition, Rising, in_order, Taken, taken_by, taken_of, taken_in, AreMapsOf, FreeMaps, Label, Database, max_id}
use Rattle.std.proofs.lemmas.List.Elements.{filter_map-append}
use Rattle.std.proofs.Math.Bool.{or_comm}
use Rattle.ldm_records.specs.declared.types.Record.TheVariants as kinds
use Rattle.ldm_group.proofs.InOrder.{in_order_same}
use Rattle.ldm_space.specs.Free.{is_taken}
use Rattle.ldm_space.proofs.FreeLaws.{taken_both, taken_permuted, kept_taken}
use Rattle.ldm_space.proofs.GapLaws.{maps_same}
use Rattle.ldm_edits.specs.Changes.{Change}
use Rattle.ldm_edits.specs.declared.replacing.Replacing.{Replacing}
use Rattle.ldm_edits.specs.Replacing.{Replaces}
use Rattle.ldm_edits.specs.Staying.{leaves, staying}
use Rattle.ldm_edits.proofs.Longer.{Lengthens, longer_rises}
use Rattle.ldm_rules.proofs.RemadeLaws.{longer_records, Share, news, records_of, parts_of}
use Rattle.ldm_group.proofs.ListLaws.{named_all}

-- ---- what is made

news_taken : (ss : List Share) (rest : List Record) → taken_in (news ss ++ rest) ≡ taken_in rest
news_taken [] rest = refl
news_taken (s ∷ ss) rest = news_taken ss rest

-- the new partitions of a longer volume alone take sectors
longer_takes : (w : Volume) (ss : List Share) → taken_in (longer_records w ss) ≡ map taken_of (parts_of ss)
longer_takes w ss = news_taken ss (records_of (parts_of ss)) ∙ named_all taken_by kinds.Partition taken_of (λ p. refl) (parts_of ss)

-- ---- the maps beside both

maps_then : (maps : FreeMaps) (records added stay made : List Record) (spots : List Taken)
    → taken_in stay ≡ taken_in (in_order (records ++ added)) → taken_in made ≡ spots
    → AreMapsOf maps (spots ++ taken_in (records ++ added)) → AreMapsOf maps (taken_in (stay ++ made))
maps_then maps records added stay made spots stays makes are =
    maps_same maps (spots ++ taken_in (records ++ added)) (taken_in (stay ++ made))
    (λ disk s. rw (filter_map-append taken_by stay made, stays, makes) (same disk s)) are
  where
    same : (disk s : ℕ) → is_taken (spots ++ taken_in (records ++ added)) disk 1 s
        ≡ is_taken (taken_in (in_order (records ++ added)) ++ spots) disk 1 s
    same disk s =
        let moved = taken_permuted _ _ (in_order_same (records ++ added)) disk 1 s in
        rw (taken_both spots, taken_both (taken_in (in_order (records ++ added))), moved)
        (or_comm (is_taken spots disk 1 s) (is_taken (taken_in (in_order (records ++ added))) disk 1 s))

-- ---- what a longer volume puts in the places of its records, where no partition leaves

pub longer_replaces : {db : Database} {labels : List Label} {change : Change} {v w : Volume} {len : ℕ} {ss : List Share}
    {spots : List Taken} (own records added : List Record) (p : Replacing)
    → db.records ≡ in_order (records ++ added) → Rising db.records → Lengthens labels db.records change v w len ss
    → map taken_of (parts_of ss) ≡ spots → staying p.leaving db.records ≡ change.stay → p.made.items ≡ change.made
    → ((q : Partition) → leaves p.leaving db.records (kinds.Partition q) ≡ false)
    → ((r : Record) → leaves p.leaving own r ≡ leaves p.leaving db.records r)
    → max_id db.records + p.fresh ≤ 2 ^ 64 - 1 → AreMapsOf p.maps (spots ++ taken_in (records ++ added)) → Replaces own db p
longer_replaces {db} {w = w} {ss = ss} own records added p whole up is spots_are stay made keeps same ids maps = record {
  ids = ids;
  rising = rw (stay, made) (longer_rises up is);
  maps = maps_then p.maps records added (staying p.leaving db.records) p.made.items _
      (kept_taken (leaves p.leaving db.records) keeps db.records ∙ ap taken_in whole)
      (ap taken_in (made ∙ is.made) ∙ longer_takes w ss ∙ spots_are) maps;
  leaves_are = same;
}
