use Rattle.std.proofs.Common.{◌≡◌, ℕ, ◌*◌, ◌/◌, List, length, Result, Ok, Err, ap, subst, ◌∙◌, arith}
use Rattle.std.specs.Prelude.{All, IfOk, Vec, vec_len}
use Rattle.std.specs.declared.alloc.Global.{Global}
use Rattle.std.proofs.lemmas.List.{length-map}
use Rattle.ldm_host.specs.Images.{items_of}
use Rattle.ldm_copy.specs.declared.found.Found.{Found}
use Rattle.ldm_found.specs.Opening.{IsGroupIn}
use Rattle.ldm_vectors.specs.Sample.{AreImagesWith, AreSampleImages, IsSampleGroup}
use Rattle.ldm_vectors.proofs.SampleLaws.{sample_room}
use Rattle.ldm_vectors.proofs.ImageLaws.{sample_found}
use Rattle.ldm_vectors.proofs.images.sample_images.Goals as goal

abbrev Images : Type 0
Images = Vec (Vec ℕ Global) Global

AreWhole : Images → Type 0
AreWhole images = All (λ image. length image.items ≡ 8192 * 512) images.items

ok_with : {E : Type 0} (P Q R : Images → Type 0) (r : Result Images E) → ((x : Images) → P x → Q x → R x) → IfOk r P → IfOk r Q → IfOk r R
ok_with P Q R (Ok x) both p q = both x p q
ok_with P Q R (Err e) both p q = tt

pub body_of-requires-clause-room : goal.body_of-requires-clause-room
body_of-requires-clause-room c = sample_room c.args.disks c.args.last c.in_ok-db.db c.requires.disks c.requires.room (c.in_ok-db.ensures {u = tt})

pub returns-clause-sizes : goal.returns-clause-sizes
unfolding AreWhole
returns-clause-sizes c =
    let body = c.as_slice.result.now in
    ok_with AreWhole (λ images. AreImagesWith c.args.disks body (items_of images.items)) (λ images. (vec_len images ≡ c.args.disks) × AreWhole images) c.images_with.result
    (λ images sizes are. (omega (arith, images.ok.0, are.count, length-map images.items (λ (v : Vec ℕ Global). v.items)), sizes)) c.images_with.ensures.sizes c.images_with.ensures.are

pub returns-clause-made : goal.returns-clause-made
unfolding AreWhole
returns-clause-made c =
    let body = c.as_slice.result.now in
    let same : body ≡ c.in_ok-body.body = c.as_slice.ensures.value in
    let sample = c.in_ok-db.ensures {u = tt} in
    let is = c.in_ok-body.ensures.body.is in
    ok_with AreWhole (λ images. AreImagesWith c.args.disks body (items_of images.items)) (λ images. AreSampleImages c.args.disks c.args.last (items_of images.items)) c.images_with.result
    (λ images sizes are. record {
      db = c.in_ok-db.db;
      database = sample;
      body = c.in_ok-body.body;
      made = c.in_ok-body.ensures.made;
      size = is.size ∙ ap (λ (n : ℕ). 512 * (n / 4)) sample.header_is.last_is;
      images_are = subst (λ (b : List ℕ). AreImagesWith c.args.disks b (items_of images.items)) same are;
    }) c.images_with.ensures.sizes c.images_with.ensures.are

pub returns-clause-found : goal.returns-clause-found
unfolding AreWhole
returns-clause-found c =
    let body = c.as_slice.result.now in
    let same : body ≡ c.in_ok-body.body = c.as_slice.ensures.value in
    ok_with AreWhole (λ images. AreImagesWith c.args.disks body (items_of images.items))
    (λ images. (found : Found) × IsGroupIn (items_of images.items) (Ok found) × IsSampleGroup c.args.disks c.args.last found) c.images_with.result
    (λ images sizes are.
    sample_found c.args.disks c.args.last c.requires.some c.requires.disks c.requires.room c.requires.few c.in_ok-db.db c.in_ok-body.body (items_of images.items)
    (c.in_ok-db.ensures {u = tt}) c.in_ok-body.ensures.body (subst (λ (b : List ℕ). AreImagesWith c.args.disks b (items_of images.items)) same are)
    c.written_label_reads_back.ensures.reads_back c.bodies_are_copies.ensures.written c.new_groups_open.ensures.opens c.new_groups_open.ensures.editable)
    c.images_with.ensures.sizes c.images_with.ensures.are
