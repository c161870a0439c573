-- A host has the images of the words as long as its disks are of the same sizes.
use Rattle.std.proofs.Common.{◌≡◌, ◌∙◌, ℕ, ◌+◌, List, [], ◌∷◌, ◌++◌, Option, Some, None, ap, length, arith}
use Rattle.ldm_host.specs.Seen.{Seen}
use Rattle.ldm_words.specs.declared.job.Job.{Job}
use Rattle.ldm_look.specs.Runs.{HasImages}
use Rattle.ldm_scan.specs.Findings.{disks_of, opened_count}

-- where the sizes are as they were, the images that the words name are there
pub images_stay : (reading : Option (Job × ℕ)) (a b : Seen) → b.sizes ≡ a.sizes → HasImages reading a → HasImages reading b
images_stay None a b same has = tt
images_stay (Some reading) a b same has = ap length same ∙ has

-- one image more
pub opened_more : (causes : List (Option (List ℕ))) (cause : Option (List ℕ)) → opened_count (causes ++ cause ∷ []) ≡ opened_count causes + disks_of cause
opened_more [] cause = omega arith
opened_more (c ∷ causes) cause = omega (arith, opened_more causes cause)
