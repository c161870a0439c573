use Rattle.std.proofs.Common.{arith, ◌≡◌, ℕ, List, [], ◌++◌, Some, append_assoc}
use Rattle.std.specs.Prelude.{codes}
use Rattle.std.proofs.lemmas.List.{append-nil}
use Rattle.std.proofs.lemmas.Result.{IfOk-equal}
use Rattle.ldm_records.specs.declared.types.Volume.{Volume}
use Rattle.ldm_places.specs.declared.shape.Shape.{Shape}
use Rattle.ldm_look.specs.Volumes.{text_of_head, text_of_form, text_of_volume}
use Rattle.ldm_look.proofs.volumes.push_volume.Goals as goal

line_is : (start one two components : List ℕ) (v : Volume) (shape : Shape) → one ≡ start ++ text_of_head (codes "volume ") v.head → two ≡ one ++ text_of_form v shape
    → two ++ (codes "\n" ++ (components ++ [])) ≡ start ++ text_of_volume v components (Some shape)
unfolding text_of_volume
line_is start one two components v shape first second = grind (arith, append_assoc, append-nil)

pub returns : goal.returns
returns c = grind (arith, IfOk-equal, line_is)
