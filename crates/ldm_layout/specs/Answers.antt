-- What the calls answer.
use Rattle.std.specs.Prelude.{◌≡◌, Result, Ok, Err}
use Rattle.ldm_places.specs.Layouts.{Layout}
use Rattle.ldm_places.specs.declared.shape.LayoutFault.{LayoutFault}
use Rattle.ldm_places.specs.declared.shape.LayoutError.{LayoutError}
use Rattle.ldm_places.specs.declared.shape.LayoutError.TheVariants.{Fault, NoMemory}

-- exactly the layout or its fault, or want of memory
abbrev pub PlansAs : Result Layout LayoutError → Result Layout LayoutFault → Type 0
PlansAs (Ok l) layout = layout ≡ Ok l
PlansAs (Err (Fault f)) layout = layout ≡ Err f
PlansAs (Err NoMemory) layout = Unit {0}
