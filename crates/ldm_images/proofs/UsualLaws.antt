-- What was written to an image of the usual group stays, and is found there.
use Rattle.std.proofs.Common.{◌≡◌, ◌≢◌, ℕ, ◌+◌, ◌-◌, ◌*◌, ◌/◌, ◌<◌, ◌≤◌, List, [], ◌∷◌, ◌++◌, inl, inr, length, take, drop, get_or, Ok, sym, ap, subst, ◌∙◌, arith}
use Rattle.std.specs.Prelude.{Vec}
use Rattle.std.specs.declared.alloc.Global.{Global}
use Rattle.std.proofs.lemmas.Bool.{cases_lt}
use Rattle.std.proofs.lemmas.List.{length-append, map-append, take_at, get_or_append_left, get_or-append_right}
use Rattle.std.proofs.lemmas.List.Elements.{All-from_recursion}
use Rattle.ldm_bytes.specs.Places.{put}
use Rattle.ldm_bytes.proofs.PlaceLaws.{length-put, drop-put}
use Rattle.ldm_host.specs.Images.{items_of}
use Rattle.ldm_host.specs.Seen.{image}
use Rattle.ldm_label.specs.Fields.{sector}
use Rattle.ldm_label.specs.LabelOf.{label_of}
use Rattle.ldm_label.specs.Written.{SameOutsideLabel, IsOutsideLabel, label_places}
use Rattle.ldm_label.proofs.OkLaws.{same_sector}
use Rattle.ldm_sample_disks.specs.Disks.{sample_label}
use Rattle.ldm_images.specs.Usual.{usual_header, IsUsualImage, AreUsualImages, KeepsHeader}

-- ---- what is written behind the header leaves it

pub keeps_then : (a b c : List ℕ) → KeepsHeader a b → KeepsHeader b c → KeepsHeader a c
keeps_then a b c one two = record { size = two.size ∙ one.size; before = λ k lt. two.before k lt ∙ one.before k lt }

-- ---- one image

-- no byte of the first sector of the config area is in a sector of the label
header_outside : (disk k : ℕ) → 512 * 6161 ≤ k → k < 512 * 6161 + 512 → IsOutsideLabel (sample_label disk) k
header_outside disk k ge lt =
    All-from_recursion (λ place. k / 512 ≢ place) (label_places (sample_label disk))
    (omega arith, (omega arith, (omega arith, (omega arith, (omega arith, (omega arith, (omega arith, (omega arith, tt))))))))

-- the header was put into an image, then what is behind it, and then the label
pub image_is : (disk : ℕ) (old filled blocks new header : List ℕ) → length old ≡ 8192 * 512 → length header ≡ 512 → header ≡ usual_header
    → filled ≡ put old (512 * 6161) header → KeepsHeader filled blocks → label_of new ≡ Ok (sample_label disk)
    → SameOutsideLabel (sample_label disk) blocks new → IsUsualImage disk new
image_is disk old filled blocks new header size len is put_is kept label same =
    let fits : 512 * 6161 + length header ≤ length old = omega (arith, size, len) in
    record {
      size = same.size ∙ kept.size ∙ ap length put_is ∙ length-put old (512 * 6161) header fits ∙ size;
      label = label;
      header =
          same_sector blocks new 6161 same.size (λ k ge lt. same.outside k (header_outside disk k ge lt))
          ∙ same_sector filled blocks 6161 kept.size (λ k ge lt. kept.before k (omega arith))
          ∙ ap (λ (l : List ℕ). sector l 6161) put_is ∙ there fits ∙ is;
    }
  where
    there : 512 * 6161 + length header ≤ length old → sector (put old (512 * 6161) header) 6161 ≡ header
    there fits =
        ap (λ (l : List ℕ). take 512 l) (drop-put old (512 * 6161) header fits)
        ∙ take_at header (drop (512 * 6161 + length header) old) 512 len

-- ---- one image more

pub images_more : (disks : ℕ) (images : List (Vec ℕ Global)) (one : Vec ℕ Global) → AreUsualImages disks (items_of images)
    → IsUsualImage disks one.items → AreUsualImages (disks + 1) (items_of (images ++ one ∷ []))
images_more disks images one before is =
    let items : items_of (images ++ one ∷ []) ≡ items_of images ++ one.items ∷ [] = map-append (λ (v : Vec ℕ Global). v.items) images (one ∷ []) in
    subst (AreUsualImages (disks + 1)) (sym items) (record {
      count = length-append (items_of images) (one.items ∷ []) ∙ omega (arith, before.count);
      each = λ disk lt. elim (cases_lt disk disks) [
        | inl less ↦
            subst (IsUsualImage disk) (sym (get_or_append_left (items_of images) (one.items ∷ []) [] disk (omega (arith, less, before.count)))) (before.each disk less)
        | inr ge ↦
            let at : disks ≡ disk = omega arith in
            let start : disk - disks ≡ 0 = omega arith in
            let last : image (items_of images ++ one.items ∷ []) disk ≡ one.items =
            get_or-append_right (items_of images) (one.items ∷ []) disks disk [] before.count ge ∙ ap (λ (k : ℕ). get_or (one.items ∷ []) k []) start in
            subst (IsUsualImage disk) (sym last) (subst (λ (k : ℕ). IsUsualImage k one.items) at is)
      ];
    })
