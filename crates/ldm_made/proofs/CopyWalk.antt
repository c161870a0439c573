-- The components of a mirror that a walk makes, each followed by its partition.
use Rattle.std.proofs.Common.{◌≡◌, ℕ, ◌+◌, ◌*◌, ◌<◌, List, [], ◌∷◌, ◌++◌, length, get_or, take, ap, ◌∙◌, append_assoc, arith, Option, Some, None}
use Rattle.std.proofs.lemmas.Grind.{common_steps}
use Rattle.std.proofs.lemmas.List.{take_more, length-take-le}
use Rattle.std.proofs.lemmas.List.Elements.{filter_map-append}
use Rattle.ldm_records.specs.declared.types.Record.{Record}
use Rattle.ldm_made.specs.Made.{new_partition, new_component}
use Rattle.ldm_made.specs.declared.taken.Taken.{Taken}
use Rattle.ldm_made.specs.Volumes.{mirror_parts, there}

copy_push : (id v : ℕ) (ts : List Taken) (t : Taken)
    → mirror_parts id v (ts ++ t ∷ []) ≡ mirror_parts id v ts ++ (new_component (id + 2 * length ts) v 2 1 None ∷ (new_partition (id + 2 * length ts + 1) t.start 0 t.size (id + 2 * length ts) t.disk None ∷ []))
copy_push id v [] t =
    let e : id ≡ id + 2 * 0 = omega arith in
    λ i. new_component (e i) v 2 1 None ∷ (new_partition (e i + 1) t.start 0 t.size (e i) t.disk None ∷ [])
copy_push id v (u ∷ ts) t =
    let c = new_component id v 2 1 None in
    let p = new_partition (id + 1) u.start 0 u.size id u.disk None in
    let e : id + 2 + 2 * length ts ≡ id + 2 * length (u ∷ ts) = omega arith in
    ap (λ (l : List (Option Record)). c ∷ (p ∷ l)) (copy_push (id + 2) v ts t)
    ∙ (λ i. c ∷ (p ∷ (mirror_parts (id + 2) v ts ++ (new_component (e i) v 2 1 None ∷ (new_partition (e i + 1) t.start 0 t.size (e i) t.disk None ∷ [])))))

-- a step of the walk
pub copies_more : (before items half pushed : List Record) (spots : List Taken) (id v at : ℕ) (d : Taken) (c p : Record) → at < length spots → items ≡ before ++ there (mirror_parts id v (take at spots))
    → new_component (id + 2 * at) v 2 1 None ≡ Some c → new_partition (id + 2 * at + 1) (get_or spots at d).start 0 (get_or spots at d).size (id + 2 * at) (get_or spots at d).disk None ≡ Some p
    → half ≡ items ++ c ∷ [] → pushed ≡ half ++ p ∷ [] → pushed ≡ before ++ there (mirror_parts id v (take (at + 1) spots))
copies_more before items half pushed spots id v at d c p lt is makes_c makes_p push_c push_p =
    grind (arith, common_steps, length-take-le, take_more, copy_push, filter_map-append, append_assoc)
