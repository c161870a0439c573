use Rattle.std.proofs.Common.{List, ℕ, ◌++◌, codes, ap, ◌∙◌, append_assoc}
use Rattle.ldm_dump.proofs.ReadLaws.{on_ok}
use Rattle.ldm_table.specs.Names.{argument}
use Rattle.ldm_table.specs.Spelling.{text_of_device}
use Rattle.ldm_table.proofs.lines.push_device.Goals as goal

pub returns : goal.returns
unfolding text_of_device
returns c =
    let name = c.args.member.now.name in
    on_ok c.push_argument.result _ _ c.push_argument.ensures
    (λ e. e ∙ (ap (λ (t : List ℕ). c.push.new.self ++ argument t) c.as_slice.ensures
    ∙ (ap (λ (t : List ℕ). t ++ argument name) c.in_ok-push.ensures ∙ append_assoc c.args.text.now (codes " - /dev/mapper/") (argument name))))
