-- The partitions that a walk makes, one after the other.
use Rattle.std.proofs.Common.{◌≡◌, ℕ, ◌+◌, ◌<◌, List, [], ◌∷◌, ◌++◌, length, get_or, take, sym, ap, ◌∙◌, append_assoc, arith, Option, Some, None, Result, Ok, Err, IfOk}
use Rattle.std.specs.Prelude.{sum_by}
use Rattle.std.specs.List.{cons_option}
use Rattle.std.proofs.lemmas.List.{take_more, length-take-le}
use Rattle.std.proofs.lemmas.List.Sums.{sum_by-cons}
use Rattle.std.proofs.lemmas.List.Elements.{filter_map-append}
use Rattle.ldm_records.specs.declared.types.Record.{Record}
use Rattle.ldm_made.specs.Made.{new_partition}
use Rattle.ldm_made.specs.declared.taken.Taken.{Taken}
use Rattle.ldm_made.specs.Volumes.{span_parts, column_parts, there}

abbrev sizes : List Taken → ℕ
sizes ts = sum_by (λ t. t.size) ts

span_push : (id c at : ℕ) (ts : List Taken) (t : Taken) → span_parts id c at (ts ++ t ∷ []) ≡ span_parts id c at ts ++ new_partition (id + length ts) t.start (at + sizes ts) t.size c t.disk None ∷ []
span_push id c at [] t = (λ i. new_partition (same_id i) t.start (same_at i) t.size c t.disk None ∷ [])
  where
    same_id : id ≡ id + 0
    same_id = omega arith

    same_at : at ≡ at + 0
    same_at = omega arith
span_push id c at (u ∷ ts) t =
    let first = new_partition id u.start at u.size c u.disk None in
    let e : id + 1 + length ts ≡ id + length (u ∷ ts) = omega arith in
    let s : at + u.size + sizes ts ≡ at + sizes (u ∷ ts) = (let cons = sum_by-cons (λ (v : Taken). v.size) u ts in omega arith) in
    ap (λ (l : List (Option Record)). first ∷ l) (span_push (id + 1) c (at + u.size) ts t)
    ∙ (λ i. first ∷ (span_parts (id + 1) c (at + u.size) ts ++ new_partition (e i) t.start (s i) t.size c t.disk None ∷ []))

column_push : (id c n : ℕ) (ts : List Taken) (t : Taken) → column_parts id c n (ts ++ t ∷ []) ≡ column_parts id c n ts ++ new_partition (id + length ts) t.start 0 t.size c t.disk (Some (n + length ts)) ∷ []
column_push id c n [] t = (λ i. new_partition (same_id i) t.start 0 t.size c t.disk (Some (same_n i)) ∷ [])
  where
    same_id : id ≡ id + 0
    same_id = omega arith

    same_n : n ≡ n + 0
    same_n = omega arith
column_push id c n (u ∷ ts) t =
    let first = new_partition id u.start 0 u.size c u.disk (Some n) in
    let e : id + 1 + length ts ≡ id + length (u ∷ ts) = omega arith in
    let s : n + 1 + length ts ≡ n + length (u ∷ ts) = omega arith in
    ap (λ (l : List (Option Record)). first ∷ l) (column_push (id + 1) c (n + 1) ts t)
    ∙ (λ i. first ∷ (column_parts (id + 1) c (n + 1) ts ++ new_partition (e i) t.start 0 t.size c t.disk (Some (s i)) ∷ []))

-- one more that is made is there
pub there_push : (xs : List (Option Record)) (o : Option Record) (r : Record) → o ≡ Some r → there (xs ++ o ∷ []) ≡ there xs ++ r ∷ []
there_push xs o r e = filter_map-append (λ (x : Option Record). x) xs (o ∷ []) ∙ ap (λ (x : Option Record). there xs ++ cons_option x []) e

pub grown : (before : List Record) (xs ys : List (Option Record)) (o : Option Record) (r : Record) (items pushed : List Record) → items ≡ before ++ there xs → ys ≡ xs ++ o ∷ [] → o ≡ Some r → pushed ≡ items ++ r ∷ []
    → pushed ≡ before ++ there ys
grown before xs ys o r items pushed is more e push = grind (arith, append_assoc, there_push)

-- a step of each walk
pub tiles_more : (before items pushed : List Record) (spots : List Taken) (id c from at offset : ℕ) (d : Taken) (r : Record) → at < length spots → items ≡ before ++ there (span_parts id c from (take at spots))
    → offset ≡ from + sizes (take at spots) → new_partition (id + at) (get_or spots at d).start offset (get_or spots at d).size c (get_or spots at d).disk None ≡ Some r → pushed ≡ items ++ r ∷ []
    → pushed ≡ before ++ there (span_parts id c from (take (at + 1) spots))
tiles_more before items pushed spots id c from at offset d r lt is sums makes push =
    let t : Taken = get_or spots at d in
    let many : length (take at spots) ≡ at = length-take-le at spots (omega arith) in
    grown before (span_parts id c from (take at spots)) (span_parts id c from (take (at + 1) spots)) (new_partition (id + at) t.start offset t.size c t.disk None) r items pushed is
    (ap (span_parts id c from) (take_more spots at d lt) ∙ span_push id c from (take at spots) t
    ∙ (λ i. span_parts id c from (take at spots) ++ new_partition (id + many i) t.start (sym sums i) t.size c t.disk None ∷ [])) makes push

pub columns_more : (before items pushed : List Record) (spots : List Taken) (id c at : ℕ) (d : Taken) (r : Record) → at < length spots → items ≡ before ++ there (column_parts id c 0 (take at spots))
    → new_partition (id + at) (get_or spots at d).start 0 (get_or spots at d).size c (get_or spots at d).disk (Some at) ≡ Some r → pushed ≡ items ++ r ∷ []
    → pushed ≡ before ++ there (column_parts id c 0 (take (at + 1) spots))
columns_more before items pushed spots id c at d r lt is makes push =
    let t : Taken = get_or spots at d in
    let many : length (take at spots) ≡ at = length-take-le at spots (omega arith) in
    let index : 0 + length (take at spots) ≡ at = omega arith in
    grown before (column_parts id c 0 (take at spots)) (column_parts id c 0 (take (at + 1) spots)) (new_partition (id + at) t.start 0 t.size c t.disk (Some at)) r items pushed is
    (ap (column_parts id c 0) (take_more spots at d lt) ∙ column_push id c 0 (take at spots) t
    ∙ (λ i. column_parts id c 0 (take at spots) ++ new_partition (id + many i) t.start 0 t.size c t.disk (Some (index i)) ∷ [])) makes push

-- ---- what is made first

-- what holds of each result holds where there is one
pub in_each : {X E : Type 0} (P Q : X → Type 0) (r : Result X E) → ((x : X) → P x → Q x) → IfOk r P → IfOk r Q
in_each P Q (Ok x) f h = f x h
in_each P Q (Err e) f h = h

-- two records, and more behind them
pub two_first : (none one two all : List Record) (a b : Record) (x y : Option Record) (parts : List (Option Record)) → none ≡ [] → one ≡ none ++ a ∷ [] → two ≡ one ++ b ∷ [] → x ≡ Some a → y ≡ Some b → all ≡ two ++ there parts
    → all ≡ there (x ∷ (y ∷ parts))
two_first none one two all a b x y parts e0 e1 e2 is_x is_y e =
    let pushed : two ≡ a ∷ (b ∷ []) = e2 ∙ ap (λ (l : List Record). l ++ b ∷ []) (e1 ∙ ap (λ (l : List Record). l ++ a ∷ []) e0) in
    e ∙ ap (λ (l : List Record). l ++ there parts) pushed ∙ (λ i. cons_option (sym is_x i) (cons_option (sym is_y i) (there parts)))
