-- What is made of a mirror that grows, one after the other.
use Rattle.std.proofs.Common.{◌≡◌, ℕ, ◌+◌, ◌<◌, ◌≤◌, List, [], ◌∷◌, ◌++◌, length, get_or, take, map, sym, ap, ◌∙◌, arith, Option, Some, None, Result, Ok, Err, Vec, Global, take_all, length-take-le}
use Rattle.ldm_edits.proofs.Common.{Record, Component, new_partition, extents_of, by_offset, held_in, Taken, there}
use Rattle.std.specs.Borrow.{Bor}
use Rattle.std.specs.List.{cons_option}
use Rattle.std.specs.Result.{IfOk}
use Rattle.std.proofs.lemmas.List.{map-append, take_more, length-map}
use Rattle.std.proofs.lemmas.List.Elements.{filter_map-append}
use Rattle.ldm_layout.specs.Parts.{tile_key}
use Rattle.ldm_layout.proofs.VolumeLaws.{rising_sum}
use Rattle.ldm_edits.specs.Mirroring.{component_holds, grown_parts}
use Rattle.ldm_made.proofs.PartWalk.{grown as pushed_on}

-- ---- what is there

-- in the order of the layout they hold as much
pub held_all : (rs : List Record) (q n : ℕ) → length rs ≤ n → held_in (extents_of q (take n rs)) ≡ held_in (by_offset (extents_of q rs))
held_all rs q n all = ap (λ (l : List Record). held_in (extents_of q l)) (take_all n rs all) ∙ sym (rising_sum tile_key (extents_of q rs))

-- ---- what is made

-- the components that were taken, and one more
taken_more : (cs : List (Bor Component)) (at : ℕ) (b : Bor Component) → at < length cs → b ≡ get_or cs at b → map (λ (x : Bor Component). x.now) (take (at + 1) cs) ≡ map (λ (x : Bor Component). x.now) (take at cs) ++ b.now ∷ []
taken_more cs at b lt is =
    ap (map (λ (x : Bor Component). x.now)) (take_more cs at b lt) ∙ map-append (λ (x : Bor Component). x.now) (take at cs) (get_or cs at b ∷ [])
    ∙ ap (λ (x : Bor Component). map (λ (y : Bor Component). y.now) (take at cs) ++ x.now ∷ []) (sym is)

grown_push : (records : List Record) (id : ℕ) (cs : List Component) (ts : List Taken) (c : Component) (t : Taken) → length cs ≡ length ts
    → grown_parts records id (cs ++ c ∷ []) (ts ++ t ∷ []) ≡ grown_parts records id cs ts ++ new_partition (id + length ts) t.start (component_holds records c) t.size c.head.id t.disk None ∷ []
grown_push records id [] [] c t same = (let e : id ≡ id + 0 = omega arith in λ i. new_partition (e i) t.start (component_holds records c) t.size c.head.id t.disk None ∷ [])
grown_push records id [] (u ∷ ts) c t same = absurd (omega arith)
grown_push records id (x ∷ cs) [] c t same = absurd (omega arith)
grown_push records id (x ∷ cs) (u ∷ ts) c t same =
    let first : Option Record = new_partition id u.start (component_holds records x) u.size x.head.id u.disk None in
    let e : id + 1 + length ts ≡ id + length (u ∷ ts) = omega arith in
    ap (λ (l : List (Option Record)). first ∷ l) (grown_push records (id + 1) cs ts c t (omega arith))
    ∙ (λ i. first ∷ (grown_parts records (id + 1) cs ts ++ new_partition (e i) t.start (component_holds records c) t.size c.head.id t.disk None ∷ []))

pub parts_more : (records before items pushed : List Record) (cs : List (Bor Component)) (ts : List Taken) (id at offset : ℕ) (b : Bor Component) (d : Taken) (r : Record) → at < length ts → length cs ≡ length ts
    → items ≡ before ++ there (grown_parts records id (map (λ (x : Bor Component). x.now) (take at cs)) (take at ts)) → b ≡ get_or cs at b → offset ≡ component_holds records b.now
    → new_partition (id + at) (get_or ts at d).start offset (get_or ts at d).size b.now.head.id (get_or ts at d).disk None ≡ Some r → pushed ≡ items ++ r ∷ []
    → pushed ≡ before ++ there (grown_parts records id (map (λ (x : Bor Component). x.now) (take (at + 1) cs)) (take (at + 1) ts))
parts_more records before items pushed cs ts id at offset b d r lt many so_far at_is holds makes push =
    let now : Bor Component → Component = λ x. x.now in
    let t : Taken = get_or ts at d in
    let done : length (take at ts) ≡ at = length-take-le at ts (omega arith) in
    let longs : length (map now (take at cs)) ≡ length (take at ts) = length-map (take at cs) now ∙ length-take-le at cs (omega arith) ∙ sym done in
    pushed_on before (grown_parts records id (map now (take at cs)) (take at ts)) (grown_parts records id (map now (take (at + 1) cs)) (take (at + 1) ts))
    (new_partition (id + at) t.start offset t.size b.now.head.id t.disk None) r items pushed so_far
    ((λ i. grown_parts records id (taken_more cs at b (omega arith) at_is i) (take_more ts at d lt i)) ∙ grown_push records id (map now (take at cs)) (take at ts) b.now t longs
    ∙ (λ i. grown_parts records id (map now (take at cs)) (take at ts) ++ new_partition (id + done i) t.start (sym holds i) t.size b.now.head.id t.disk None ∷ []))
    makes push

-- all of it: the volume, its components, their partitions
pub grown_all : {E : Type 0} (r : Result (Vec Record Global) E) (before items : List Record) (vol : Option Record) (v : Record) (cs ps : List (Option Record)) → before ≡ [] → vol ≡ Some v → items ≡ (before ++ v ∷ []) ++ there cs
    → IfOk r (λ x. x.items ≡ items ++ there ps) → IfOk r (λ x. x.items ≡ there (vol ∷ (cs ++ ps)))
grown_all (Ok x) before items vol v cs ps none made is more =
    more ∙ ap (λ (l : List Record). l ++ there ps) (is ∙ ap (λ (l : List Record). (l ++ v ∷ []) ++ there cs) none)
    ∙ ap (λ (l : List Record). v ∷ l) (sym (filter_map-append (λ (o : Option Record). o) cs ps)) ∙ ap (λ (o : Option Record). cons_option o (there (cs ++ ps))) (sym made)
grown_all (Err e) before items vol v cs ps none made is more = more
