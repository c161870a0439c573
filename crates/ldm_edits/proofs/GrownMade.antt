-- extend of a mirror: the records that it makes, where each component takes these sectors.
use Rattle.std.proofs.Common.{◌≡◌, ℕ, suc, ◌+◌, ◌^◌, ◌<◌, ◌≤◌, ◌==◌, List, [], ◌∷◌, ◌++◌, length, map, refl, sym, ap, subst, ◌∙◌, arith, Bool, true, false, Option, Some, None, Contains, filter, if◌then◌else◌, eq-eqb}
use Rattle.ldm_edits.proofs.Common.{Record, Volume, Component, resized, is_child, max_id, Extent, extent_of, Taken, taken_of, there}
use Rattle.std.specs.List.{cons_option, filter_map}
use Rattle.std.specs.Option.{option_map}
use Rattle.std.proofs.lemmas.Bool.{and_from}
use Rattle.std.proofs.lemmas.List.Elements.{filter_map-append}
use Rattle.std.proofs.lemmas.List.Sums.{sum_by-cons}
use Rattle.ldm_records.specs.declared.types.Record.TheVariants as kinds
use Rattle.ldm_records.specs.Plain.{own_spelling}
use Rattle.ldm_records.specs.Views.{plain_of}
use Rattle.ldm_made.proofs.MadeLaws.{MakesChildren, makes_children, MakesPartition, makes_partition}
use Rattle.ldm_edits.specs.Mirroring.{component_in_record, components_of, component_holds, grown_components, grown_parts, grown_made}
use Rattle.ldm_rules.proofs.RemadeLaws.{Share, olds, news, parts_of, IsNewPart, records_of, longer_records}
use Rattle.ldm_group.proofs.ListLaws.{only_one, each_more, map_map}
use Rattle.ldm_group.proofs.AddedLaws.{alone_rises, IdsFrom}
use Rattle.ldm_edits.proofs.Longer.{IsShare, plex_is}
use Rattle.ldm_edits.proofs.AskedLaws.{IsTaken}

-- a component that can have one partition more
pub record IsReady (c : Component) : Type 0 where
  pub few : c.children + 1 < 2 ^ 64
  pub low : c.head.id < 2 ^ 64
  pub spelled : length (own_spelling (plain_of (kinds.Component c))) ≤ 448

pub record MakesShares (records : List Record) (v : Volume) (len id : ℕ) (cs : List Component) (ts : List Taken) : Type 0 where
  pub ss : List Share
  pub components_are : map (λ (s : Share). s.c) ss ≡ cs
  pub changed_are : there (grown_components cs) ≡ news ss
  pub parts_are : there (grown_parts records id cs ts) ≡ records_of (parts_of ss)
  pub each : (s : Share) → Contains ss s → IsShare records v len s
  pub ids : IdsFrom id (parts_of ss)
  pub taken_are : map taken_of (parts_of ss) ≡ ts

no_shares : (records : List Record) (v : Volume) (len id : ℕ) → MakesShares records v len id [] []
no_shares records v len id = record {
  ss = [];
  components_are = refl;
  changed_are = refl;
  parts_are = refl;
  each = λ s at. absurd (let lt = at.1 in omega arith);
  ids = tt;
  taken_are = refl;
}

one_share : (records : List Record) (v : Volume) (len id : ℕ) (c : Component) (cs : List Component) (t : Taken) (ts : List Taken) → max_id records < id → c.parent ≡ v.head.id → IsTaken records t → t.size ≡ len
    → MakesChildren c (c.children + 1) → MakesPartition id t.start (component_holds records c) t.size c.head.id t.disk None
    → MakesShares records v len (id + 1) cs ts → MakesShares records v len id (c ∷ cs) (t ∷ ts)
one_share records v len id c cs t ts new parent takes size d p rest = record {
  ss = here ∷ rest.ss;
  components_are = λ i. c ∷ rest.components_are i;
  changed_are = λ i. cons_option (option_map kinds.Component (d.made i)) (rest.changed_are i);
  parts_are = λ i. cons_option (p.made i) (rest.parts_are i);
  each = each_more (IsShare records v len) here rest.ss first rest.each;
  ids = (p.id_is, rest.ids);
  taken_are = λ i. record { disk = p.disk_is i; start = p.start_is i; size = p.size_is i } ∷ rest.taken_are i;
}
  where
    here : Share
    here = record { c = c; d = d.component; parts = p.partition ∷ [] }

    part : IsNewPart records c p.partition
    part = record {
      above = (let is = p.id_is in omega arith);
      parent = p.parent_is;
      disk = (takes.disk.0, takes.disk.1, takes.disk.2 ∙ sym p.disk_is);
      some = ap (λ (n : ℕ). n == 0) p.size_is ∙ takes.some;
    }

    first : IsShare records v len here
    first = record {
      parent = parent;
      same_plex = plex_is d;
      children = (let grown = d.children_is in omega arith);
      each = λ q at. subst (IsNewPart records c) (only_one p.partition q at) part;
      rise = alone_rises (kinds.Partition p.partition);
      tiled = and_from (p.partition.offset == component_holds records c) true (eq-eqb p.partition.offset (component_holds records c) p.offset_is) refl;
      size = (let one = sum_by-cons (λ (e : Extent). e.size) (extent_of p.partition) [] in let same = p.size_is in omega arith);
    }

pub makes_shares : (records : List Record) (v : Volume) (len id : ℕ) (cs : List Component) (ts : List Taken)
    → length cs ≡ length ts → max_id records < id → id + length ts ≤ 2 ^ 64
    → ((c : Component) → Contains cs c → (c.parent ≡ v.head.id) × IsReady c)
    → ((t : Taken) → Contains ts t → IsTaken records t × (t.size ≡ len)) → MakesShares records v len id cs ts
makes_shares records v len id [] [] many new few ready takes = no_shares records v len id
makes_shares records v len id [] (t ∷ ts) many new few ready takes = absurd (omega arith)
makes_shares records v len id (c ∷ cs) [] many new few ready takes = absurd (omega arith)
makes_shares records v len id (c ∷ cs) (t ∷ ts) many new few ready takes =
    let r = ready c (0, omega arith, refl) in
    let k = takes t (0, omega arith, refl) in
    one_share records v len id c cs t ts new r.0 k.0 k.1 (makes_children c (c.children + 1) r.1.few r.1.spelled)
    (makes_partition id t.start (component_holds records c) t.size c.head.id t.disk None (omega arith) k.0.small r.1.low k.0.low (omega arith))
    (makes_shares records v len (id + 1) cs ts (omega arith) (omega arith) (omega arith)
    (λ x at. ready x (suc at.0, (let lt = at.1 in omega arith), at.2)) (λ x at. takes x (suc at.0, (let lt = at.1 in omega arith), at.2)))

-- ---- what is made

pub made_are : (records : List Record) (v w : Volume) (size len id : ℕ) (ts : List Taken) (made : MakesShares records v len id (components_of v records) ts) → resized v size ≡ Some w
    → grown_made records v size id ts ≡ longer_records w made.ss
made_are records v w size len id ts made is =
    ap (λ (o : Option Volume). cons_option (option_map kinds.Volume o) (there (grown_components (components_of v records) ++ grown_parts records id (components_of v records) ts))) is
    ∙ ap (λ (l : List Record). kinds.Volume w ∷ l) (filter_map-append (λ (r : Option Record). r) (grown_components (components_of v records)) (grown_parts records id (components_of v records) ts)
    ∙ (λ i. made.changed_are i ++ made.parts_are i))

-- the components of a volume are the records that name it
pub named_components : (q : ℕ) (records : List Record)
    → filter (is_child 3 q) records ≡ map (λ (c : Component). kinds.Component c) (filter_map component_in_record (filter (is_child 3 q) records))
named_components q [] = refl
named_components q (kinds.Component c ∷ records) =
    let rest = named_components q records in
    elim (c.parent == q) as (λ (b : Bool). (if b then kinds.Component c ∷ filter (is_child 3 q) records else filter (is_child 3 q) records)
    ≡ map (λ (x : Component). kinds.Component x) (filter_map component_in_record (if b then kinds.Component c ∷ filter (is_child 3 q) records else filter (is_child 3 q) records))) [
      | true ↦ ap (λ (l : List Record). kinds.Component c ∷ l) rest
      | false ↦ rest
    ]
named_components q (kinds.Volume v ∷ records) = named_components q records
named_components q (kinds.Disk d ∷ records) = named_components q records
named_components q (kinds.Group g ∷ records) = named_components q records
named_components q (kinds.Partition p ∷ records) = named_components q records

pub olds_are : (records : List Record) (v : Volume) (ss : List Share) → map (λ (s : Share). s.c) ss ≡ components_of v records
    → filter (is_child 3 v.head.id) records ≡ olds ss
olds_are records v ss are =
    named_components v.head.id records ∙ ap (map (λ (c : Component). kinds.Component c)) (sym are) ∙ map_map (λ (c : Component). kinds.Component c) (λ (s : Share). s.c) ss
