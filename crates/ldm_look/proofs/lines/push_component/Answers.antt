use Rattle.std.proofs.Common.{arith, ◌≡◌, ℕ, List, [], ◌++◌, append_assoc}
use Rattle.std.specs.Prelude.{codes}
use Rattle.std.proofs.lemmas.List.{append-nil}
use Rattle.std.proofs.lemmas.Result.{IfOk-equal}
use Rattle.ldm_records.specs.declared.types.Component.{Component}
use Rattle.ldm_look.specs.Volumes.{text_of_head, text_of_layout, text_of_component}
use Rattle.ldm_look.proofs.lines.push_component.Goals as goal

line_is : (start one two partitions : List ℕ) (c : Component) → one ≡ start ++ text_of_head (codes "  component ") c.head → two ≡ one ++ text_of_layout c.layout c.striping
    → two ++ (codes "\n" ++ (partitions ++ [])) ≡ start ++ text_of_component c partitions
unfolding text_of_component
line_is start one two partitions c first second = grind (arith, append_assoc, append-nil)

pub returns : goal.returns
returns c =
    IfOk-equal c.push_parts.result c.push_parts.new.text (c.push_layout.new.text ++ (codes "\n" ++ (c.args.partitions.now ++ []))) (c.args.text.now ++ text_of_component c.args.c.now c.args.partitions.now)
    c.push_parts.ensures (line_is _ _ _ c.args.partitions.now c.args.c.now c.in_ok-push_head.ensures c.in_ok-push_layout.ensures)
