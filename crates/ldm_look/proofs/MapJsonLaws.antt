-- Objects of places: one number more, and by the disks that the records tell.
use Rattle.std.proofs.Common.{◌≡◌, ◌∙◌, ◌++◌, ◌∷◌, [], ◌+◌, ℕ, zero, suc, List, Option, Some, refl, ap, sym, append_assoc, arith}
use Rattle.std.specs.Prelude.{Bool, codes, is_none}
use Rattle.std.specs.List.{flat_map, range_with_len}
use Rattle.std.proofs.lemmas.List.{append-nil}
use Rattle.std.proofs.lemmas.Grind.{flat_map-append}
use Rattle.json.specs.Token.{Token}
use Rattle.json.specs.Tree.{json_tokens}
use Rattle.json.specs.Json.{Json, boolean}
use Rattle.ldm_json.specs.Values.{json_object, number_json, maybe_json, maybe_text_json, name_json}
use Rattle.ldm_label.specs.declared.Label.{Label}
use Rattle.ldm_places.specs.Layouts.{Layout}
use Rattle.ldm_records.specs.declared.types.Record.{Record}
use Rattle.ldm_look.specs.declared.mapped.MappedDisk.{MappedDisk}
use Rattle.ldm_look.specs.Map.{mapped_at}
use Rattle.ldm_look.specs.Paths.{path_of}
use Rattle.ldm_look.specs.ShowJson.{image_sector}
use Rattle.ldm_look.specs.MapJson.{place_json, sectors_jsons}

pub place_is : (paths : List (List ℕ)) (x : ℕ) (copy : Option ℕ) (d : MappedDisk) (y : ℕ) (parity : Bool) (name : List ℕ) (image : Option ℕ) (path : Option (List ℕ)) (at : Option ℕ)
    → parity ≡ is_none copy → name ≡ d.name → image ≡ d.image → path ≡ path_of paths d.image → at ≡ image_sector (Some d) y
    → json_object (
    (codes "sector", number_json x) ∷ (codes "copy", maybe_json copy) ∷ (codes "parity", boolean parity) ∷ (codes "disk", name_json name) ∷ (codes "image", maybe_json image)
    ∷ (codes "path", maybe_text_json path) ∷ (codes "start", number_json y) ∷ (codes "image_start", maybe_json at) ∷ []) ≡ place_json paths x copy d y
unfolding place_json
place_is paths x copy d y parity name image path at a b c e f = rw (a, b, c, e, f) refl

-- two lists of objects, one behind the other
pub both_added : (start mid new : List Token) (xs ys : List Json) → mid ≡ start ++ flat_map json_tokens xs → new ≡ mid ++ flat_map json_tokens ys
    → new ≡ start ++ flat_map json_tokens (xs ++ ys)
both_added start mid new xs ys a b =
    b ∙ ap (λ (ts : List Token). ts ++ flat_map json_tokens ys) a ∙ append_assoc start (flat_map json_tokens xs) (flat_map json_tokens ys)
    ∙ ap (λ (ts : List Token). start ++ ts) (sym (flat_map-append json_tokens xs ys))

jsons_suc : (f : ℕ → List Json) (a n j : ℕ) → a + n ≡ j → flat_map f (range_with_len a (suc n)) ≡ flat_map f (range_with_len a n) ++ f j
jsons_suc f a zero j e = append-nil (f a) ∙ ap f (omega arith)
jsons_suc f a (suc n) j e =
    ap (λ (t : List Json). f a ++ t) (jsons_suc f (a + 1) n j (omega arith))
    ∙ sym (append_assoc (f a) (flat_map f (range_with_len (a + 1) n)) (f j))

pub jsons_more : (f : ℕ → List Json) (a n j : ℕ) (start old new : List Token) → a + n ≡ j → old ≡ start ++ flat_map json_tokens (flat_map f (range_with_len a n))
    → new ≡ old ++ flat_map json_tokens (f j) → new ≡ start ++ flat_map json_tokens (flat_map f (range_with_len a (n + 1)))
jsons_more f a n j start old new at before after =
    let more : suc n ≡ n + 1 = omega arith in
    both_added start old new (flat_map f (range_with_len a n)) (f j) before after
    ∙ ap (λ (js : List Json). start ++ flat_map json_tokens js) (sym (jsons_suc f a n j at) ∙ ap (λ (m : ℕ). flat_map f (range_with_len a m)) more)

pub same_sectors : (disks : ℕ → Option MappedDisk) (paths : List (List ℕ)) (labels ls : List Label) (records rs : List Record) (l : Layout) (first count : ℕ)
    → ((id : ℕ) → disks id ≡ mapped_at ls rs id) → ls ≡ labels → rs ≡ records
    → sectors_jsons disks paths l first count ≡ sectors_jsons (mapped_at labels records) paths l first count
same_sectors disks paths labels ls records rs l first count is a b =
    let alike : disks ≡ mapped_at ls rs = λ i id. is id i in
    ap (λ (f : ℕ → Option MappedDisk). sectors_jsons f paths l first count) (alike ∙ ap (λ (z : List Label). mapped_at z rs) a ∙ ap (λ (z : List Record). mapped_at labels z) b)
