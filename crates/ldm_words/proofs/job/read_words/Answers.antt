use Rattle.std.proofs.Common.{rules, ◌≡◌, ℕ, Bool, cond, refl, sym, ap, ◌∙◌, Option, Some, None}
use Rattle.ldm_words.specs.declared.job.Job.{Job}
use Rattle.ldm_words.specs.Jobs.{texts, images_behind, with_images}
use Rattle.ldm_words.proofs.JobLaws.{job_of_form, reading_counts}
use Rattle.ldm_words.proofs.job.read_words.Goals as goal

pub returns-in_default-clause-reads : goal.returns-in_default-clause-reads
returns-in_default-clause-reads c =
    let words = c.args.words.now in
    let images = c.image_count-images.result in
    let none : c.in_ok-job.field-0 ≡ None = search rules in
    job_of_form words c.on_place-place.result images (images_behind (texts words)) (texts c.image_words-behind.result.now) c.in_ok-job.field-0 c.on_place-place.ensures.is c.image_count-images.ensures.is refl c.image_words-behind.ensures c.in_ok-job.ensures.is
    ∙ ap (with_images images (images_behind (texts words))) none

pub returns-then-fits-clause-reads : goal.returns-then-fits-clause-reads
returns-then-fits-clause-reads c =
    let images = c.image_count-images.result in
    let behind = c.images_behind.result in
    let one : Option (Job × ℕ) = Some (c.in-Some.job, images) in
    job_of_form c.args.words.now c.on_place-place.result images behind (texts c.image_words-behind.result.now) c.in_ok-job.field-0 c.on_place-place.ensures.is c.image_count-images.ensures.is c.images_behind.ensures c.image_words-behind.ensures c.in_ok-job.ensures.is
    ∙ ap (with_images images behind) c.in-Some.is ∙ ap (λ (b : Bool). cond b one None) (sym c.fits.ensures ∙ c.if-fits.true)

pub returns-else-fits-clause-reads : goal.returns-else-fits-clause-reads
returns-else-fits-clause-reads c =
    let images = c.image_count-images.result in
    let behind = c.images_behind.result in
    let one : Option (Job × ℕ) = Some (c.in-Some.job, images) in
    job_of_form c.args.words.now c.on_place-place.result images behind (texts c.image_words-behind.result.now) c.in_ok-job.field-0 c.on_place-place.ensures.is c.image_count-images.ensures.is c.images_behind.ensures c.image_words-behind.ensures c.in_ok-job.ensures.is
    ∙ ap (with_images images behind) c.in-Some.is ∙ ap (λ (b : Bool). cond b one None) (sym c.fits.ensures ∙ c.if-fits.false)

pub returns-then-fits-clause-count : goal.returns-then-fits-clause-count
returns-then-fits-clause-count c = reading_counts (texts c.args.words.now) (c.in-Some.job, c.image_count-images.result) (returns-then-fits-clause-reads c)
