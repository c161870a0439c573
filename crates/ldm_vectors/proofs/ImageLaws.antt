-- The images of the sample group are found to hold it.
use Rattle.std.proofs.Common.{◌≡◌, ◌≢◌, ℕ, ◌+◌, ◌-◌, ◌*◌, ◌/◌, ◌<◌, ◌≤◌, List, [], ◌∷◌, ◌++◌, inl, inr, length, get_or, slice_index, Some, None, Ok, refl, sym, ap, subst, ◌∙◌, arith}
use Rattle.std.specs.Prelude.{map, nat_lt, if◌then◌else◌, Vec}
use Rattle.std.specs.declared.alloc.Global.{Global}
use Rattle.std.proofs.lemmas.Bool.{cases_lt}
use Rattle.std.proofs.lemmas.List.{length-append, map-append, get_or_append_left, get_or-append_right}
use Rattle.std.proofs.lemmas.List.Elements.{All-from_recursion}
use Rattle.ldm_bytes.specs.Places.{put}
use Rattle.ldm_bytes.proofs.PlaceLaws.{length-put, get_or-put_inside, get_or-put_outside}
use Rattle.ldm_host.specs.Images.{items_of}
use Rattle.ldm_host.specs.Seen.{image}
use Rattle.ldm_label.specs.declared.Label.{Label}
use Rattle.ldm_label.specs.Fields.{sectors_of}
use Rattle.ldm_label.specs.LabelOf.{label_of, Fits}
use Rattle.ldm_label.specs.Laws.{WrittenLabelsRead}
use Rattle.ldm_label.specs.Written.{HasLabel, SameOutsideLabel, IsOutsideLabel, label_places}
use Rattle.ldm_group.specs.Database.{Database}
use Rattle.ldm_copy.specs.Copy.{gate_at, IsWritten}
use Rattle.ldm_body.specs.Body.{IsBodyOf, IsBodyOn, HasBody}
use Rattle.ldm_copy.specs.declared.fault.OpenFault.TheVariants as faults
use Rattle.ldm_copy.specs.declared.found.Found.{Found}
use Rattle.ldm_copy.specs.declared.notes.Note.{Note}
use Rattle.ldm_copy.specs.declared.notes.Note.TheVariants as notes
use Rattle.ldm_init.specs.New.{HoldCopies, NewOpens, NewIsEditable}
use Rattle.ldm_found.specs.Opening.{IsGroupIn, found_with}
use Rattle.ldm_sample_disks.specs.Disks.{sample_label, sample_labels, IsZeros}
use Rattle.ldm_sample_disks.proofs.DiskLaws.{label_fits}
use Rattle.ldm_vectors.specs.Sample.{IsSampleDatabase, IsSampleImage, AreImagesWith, IsSampleGroup}
use Rattle.ldm_vectors.proofs.SampleLaws.{label_at, labels_count, labels_apart, label_writable, own_areas, sample_new}

-- ---- one image

-- no byte of the config area is in a sector of the label
area_outside : (disk k : ℕ) → k < 512 * 1481 → IsOutsideLabel (sample_label disk) (gate_at (sample_label disk) + k)
area_outside disk k lt =
    All-from_recursion (λ place. (gate_at (sample_label disk) + k) / 512 ≢ place) (label_places (sample_label disk))
    (omega arith, (omega arith, (omega arith, (omega arith, (omega arith, (omega arith, (omega arith, (omega arith, tt))))))))

-- a body that was put into zeros, and then the label
pub image_of : (disk : ℕ) (body zeros filled image : List ℕ) → length body ≤ 512 * 1481 → IsZeros (8192 * 512) zeros → filled ≡ put zeros (gate_at (sample_label disk)) body
    → HasLabel (sample_label disk) image → SameOutsideLabel (sample_label disk) filled image → IsSampleImage (sample_label disk) body image
image_of disk body zeros filled image few none is label same =
    let gate = gate_at (sample_label disk) in
    let fits : gate + length body ≤ length zeros = omega (arith, few, none.size) in
    record {
      size = same.size ∙ ap length is ∙ length-put zeros gate body fits ∙ none.size;
      label_is = label;
      body_is = λ k lt. same.outside (gate + k) (area_outside disk k (omega (arith, few, lt))) ∙ ap (λ (l : List ℕ). slice_index l (gate + k)) is ∙ get_or-put_inside zeros gate body k fits lt;
      zeros = λ k outside sides. same.outside k outside ∙ ap (λ (l : List ℕ). slice_index l k) is ∙ get_or-put_outside zeros gate body k fits sides ∙ none.zeros k;
    }

-- one image more
pub images_more : (disks : ℕ) (body : List ℕ) (images : List (Vec ℕ Global)) (one : Vec ℕ Global) → AreImagesWith disks body (items_of images)
    → IsSampleImage (sample_label disks) body one.items → AreImagesWith (disks + 1) body (items_of (images ++ one ∷ []))
images_more disks body images one before is =
    let items : items_of (images ++ one ∷ []) ≡ items_of images ++ one.items ∷ [] = map-append (λ (v : Vec ℕ Global). v.items) images (one ∷ []) in
    subst (AreImagesWith (disks + 1) body) (sym items) (record {
      count = length-append (items_of images) (one.items ∷ []) ∙ omega (arith, before.count);
      each = λ disk lt. elim (cases_lt disk disks) [
        | inl less ↦
            subst (IsSampleImage (sample_label disk) body) (sym (get_or_append_left (items_of images) (one.items ∷ []) [] disk (omega (arith, less, before.count)))) (before.each disk less)
        | inr ge ↦
            let at : disks ≡ disk = omega arith in
            let start : disk - disks ≡ 0 = omega arith in
            let last : image (items_of images ++ one.items ∷ []) disk ≡ one.items =
            get_or-append_right (items_of images) (one.items ∷ []) disks disk [] before.count ge ∙ ap (λ (k : ℕ). get_or (one.items ∷ []) k []) start in
            subst (IsSampleImage (sample_label disk) body) (sym last) (subst (λ (k : ℕ). IsSampleImage (sample_label k) body one.items) at is)
      ];
    })

-- ---- the laws that are cited

abbrev pub BodiesAreWritten : Type 0
BodiesAreWritten = (db : Database) (label : Label) (body image : List ℕ) → IsBodyOn db label body → gate_at label + 512 * label.area_sectors ≤ length image
    → slice_index image (gate_at label) ≡ 0x56 → HasBody label body image → IsWritten label db image

-- ---- the group

module _ (disks last : ℕ) (some : 1 ≤ disks) (few : disks ≤ 3) (low : 8 ≤ last) (high : last ≤ 5924) (db : Database) (body : List ℕ) (images : List (List ℕ))
    (sample : IsSampleDatabase disks last db) (is : IsBodyOf db body) (are : AreImagesWith disks body images) where
  last_is : db.header.last ≡ last
  last_is = sample.header_is.last_is

  has_label : WrittenLabelsRead → (disk : ℕ) → disk < disks → label_of (image images disk) ≡ Ok (sample_label disk)
  has_label reads disk lt =
      let own = are.each disk lt in
      let sectors : sectors_of (image images disk) ≡ 8192 = ap (λ (n : ℕ). n / 512) own.size in
      reads (sample_label disk) (image images disk) own.label_is (subst (Fits (sample_label disk)) (sym sectors) (label_fits disk)) (label_writable disk (omega arith))

  has_copy : BodiesAreWritten → (disk : ℕ) → disk < disks → IsWritten (sample_label disk) db (image images disk)
  has_copy written disk lt =
      let own = are.each disk lt in
      let label = sample_label disk in
      let some_bytes : 0 < length body = omega (arith, is.is.size, last_is) in
      let on : IsBodyOn db label body =
      record { is = is.is; rising = is.rising; low = is.low; high = omega (arith, last_is); fits = omega (arith, last_is) } in
      let first : gate_at label + 0 ≡ gate_at label = omega arith in
      written db label body (image images disk) on (omega (arith, own.size))
      (ap (λ (k : ℕ). slice_index (image images disk) k) (sym first) ∙ own.body_is 0 some_bytes ∙ is.is.gate) (λ k above within. own.body_is k within)

  hold : WrittenLabelsRead → BodiesAreWritten → HoldCopies db (sample_labels disks) images
  hold reads written = record {
    one_each = are.count ∙ sym (labels_count disks);
    labels_are = λ disk label at. let own = label_at disks disk label at in subst (λ (l : Label). label_of (image images disk) ≡ Ok l) own.1 (has_label reads disk own.0);
    copies_are = λ disk label at. let own = label_at disks disk label at in subst (λ (l : Label). IsWritten l db (image images disk)) own.1 (has_copy written disk own.0);
  }

  pub sample_found : WrittenLabelsRead → BodiesAreWritten → NewOpens → NewIsEditable → (found : Found) × IsGroupIn images (Ok found) × IsSampleGroup disks last found
  sample_found reads written opens editable =
      let labels = sample_labels disks in
      let new = sample_new disks last db few sample in
      let many : 1 ≤ length labels = omega (arith, labels_count disks) in
      let blocked = editable db labels new (own_areas disks db.header.last (omega (arith, last_is))) in (
        found_with db labels (map (λ _. notes.Sequence db.header.seq) labels),
        opens db labels images new many (labels_apart disks) (hold reads written),
        record {
          database = sample;
          labels_are = refl;
          notes_are = ap (λ (n : ℕ). map {A = Label} {B = Note} (λ _. notes.Sequence n) labels) sample.header_is.seq_is;
          blocked_is = blocked ∙ ap (λ (n : ℕ). if nat_lt n 2 then Some faults.FewDisks else None) (labels_count disks);
        },
      )
