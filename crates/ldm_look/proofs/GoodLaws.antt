-- The good copies of the images of a group, image by image, and what is said of them.
use Rattle.std.proofs.Common.{◌≡◌, ◌+◌, ◌<◌, ◌≤◌, sym, ◌++◌, ◌∷◌, [], ℕ, List, length, get_or, drop, map, arith, subst, ap, ◌∙◌, add-one, drop-cons, append_assoc}
use Rattle.std.proofs.lemmas.List.{drop_all, append-nil}
use Rattle.std.specs.List.{enumerate_from}
use Rattle.ldm_host.specs.Seen.{image}
use Rattle.ldm_label.specs.declared.Label.{Label}
use Rattle.ldm_label.specs.declared.counting.GoodCopies.{GoodCopies}
use Rattle.ldm_label.specs.GoodCopies.{good_copies}
use Rattle.ldm_words.specs.declared.job.Format.{Format}
use Rattle.ldm_words.specs.declared.job.Format.TheVariants.{Lines, Json}
use Rattle.ldm_copy.specs.declared.found.Found.{Found}
use Rattle.ldm_json.specs.Values.{line_of_json}
use Rattle.ldm_look.specs.CheckJson.{check_json}
use Rattle.ldm_look.specs.Looks.{said_check, check_answer, AreCounted}
use Rattle.ldm_look.specs.Said.{Answer}
use Rattle.ldm_words.specs.declared.status.Status.TheVariants.{Done}

-- those from an image on
abbrev pub goods_from : List (List ℕ) → ℕ → List Label → List GoodCopies
goods_from images n labels = map (λ at. good_copies (image images at.0) at.1) (enumerate_from n labels)

pairs_next : {A B : Type 0} (f : ℕ × A → B) (xs : List A) (n : ℕ) (d : A) (ys more all : List B) (y : B) → n < length xs → y ≡ f (n, get_or xs n d) → more ≡ ys ++ y ∷ []
    → ys ++ map f (enumerate_from n (drop n xs)) ≡ all → more ++ map f (enumerate_from (n + 1) (drop (n + 1) xs)) ≡ all
pairs_next {A} {B} f xs n d ys more all y lt is grown before =
    let cons : drop n xs ≡ get_or xs n d ∷ drop (n + 1) xs = rw add-one (drop-cons xs n d lt) in
    let rest : List B = map f (enumerate_from (n + 1) (drop (n + 1) xs)) in
    let here = subst (λ (l : List A). ys ++ map f (enumerate_from n l) ≡ all) cons before in
    ap (λ (l : List B). l ++ rest) grown ∙ append_assoc ys (y ∷ []) rest ∙ ap (λ (z : B). ys ++ (z ∷ rest)) is ∙ here

pub goods_next : (images : List (List ℕ)) (labels : List Label) (n : ℕ) (d : Label) (goods more all : List GoodCopies) (good : GoodCopies) → n < length labels
    → good ≡ good_copies (image images n) (get_or labels n d) → more ≡ goods ++ good ∷ [] → goods ++ goods_from images n (drop n labels) ≡ all
    → more ++ goods_from images (n + 1) (drop (n + 1) labels) ≡ all
goods_next images labels n d goods more all good lt is grown before = pairs_next (λ at. good_copies (image images at.0) at.1) labels n d goods more all good lt is grown before

-- those behind the last image are none
pub goods_all : (images : List (List ℕ)) (labels : List Label) (n : ℕ) (goods all : List GoodCopies) → length labels ≤ n → goods ++ goods_from images n (drop n labels) ≡ all → goods ≡ all
goods_all images labels n goods all le before = sym (append-nil goods) ∙ (rw (drop_all n labels le) at before)

-- what is answered goes by the good copies only where they are counted
pub counted_answer : (format : Format) (images : List (List ℕ)) (goods : List GoodCopies) (found : Found) (answer : Answer) → AreCounted format images found.labels goods
    → answer ≡ (said_check format goods found, Done) → answer ≡ check_answer format images found
counted_answer Lines images goods found answer counted is = is
counted_answer (Json paths) images goods found answer counted is = subst (λ (l : List GoodCopies). answer ≡ (line_of_json (check_json paths l found), Done)) counted is
