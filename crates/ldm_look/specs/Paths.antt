-- The words of images, by their numbers.
use Rattle.std.specs.Prelude.{ℕ, List, Option, slice_get}
use Rattle.std.specs.Option.{option_and_then}

-- the word of this image, where there is one
abbrev pub path_of : List (List ℕ) → Option ℕ → Option (List ℕ)
path_of paths image = option_and_then (slice_get paths) image
