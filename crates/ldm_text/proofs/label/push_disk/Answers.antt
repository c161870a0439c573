use Rattle.std.proofs.Common.{◌≡◌, ◌∙◌, ℕ, List, [], ◌++◌, OnOk, ap, subst, append_assoc}
use Rattle.std.specs.Prelude.{codes, decimal}
use Rattle.std.proofs.lemmas.List.{append-nil}
use Rattle.ldm_bytes.specs.Guid.{own_guid}
use Rattle.ldm_text.specs.Texts.{text_of_disk}
use Rattle.ldm_text.proofs.label.push_disk.Goals as goal

disk_is : (guid minor number : ℕ) → number ≡ minor → codes "disk " ++ (own_guid guid ++ (codes " version 2." ++ (decimal number ++ []))) ≡ text_of_disk guid minor
unfolding text_of_disk
disk_is guid minor number same =
    ap (λ (n : ℕ). codes "disk " ++ (own_guid guid ++ (codes " version 2." ++ (decimal n ++ [])))) same ∙ simp (append_assoc, append-nil)

pub returns : goal.returns
returns c =
    subst (λ (t : List ℕ). OnOk c.push_parts.result (c.push_parts.new.text ≡ c.args.text.now ++ t)) (disk_is c.args.guid c.args.minor c.from.result c.from.ensures) c.push_parts.ensures
