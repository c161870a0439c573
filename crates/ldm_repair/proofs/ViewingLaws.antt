-- Images as they are shown.
use Rattle.std.proofs.Common.{◌≡◌, ℕ, List, ap}
use Rattle.std.proofs.Math.Logic.{∥∥₁_elim}
use Rattle.std.proofs.Props.{props}
use Rattle.ldm_view.specs.declared.patch.Patch.{Patch}
use Rattle.ldm_view.specs.Patches.{shown}

pub shown_as : (old new : List Patch) (images : List (List ℕ)) → ∥ new ≡ old ∥₁ → shown new images ≡ shown old images
shown_as old new images same = ∥∥₁_elim same (hlevel props) (λ (e : new ≡ old). ap (λ (l : List Patch). shown l images) e)
