-- A map that has the sectors of each disk says what the records do.
use Rattle.std.proofs.Common.{◌≡◌, ◌∙◌, ℕ, List, ap}
use Rattle.ldm_records.specs.declared.types.Record.{Record}
use Rattle.ldm_label.specs.declared.Label.{Label}
use Rattle.ldm_group.specs.Partitions.{used_on}
use Rattle.ldm_look.specs.Show.{text_of_disks}

pub same_disks : (used : ℕ → ℕ) (labels : List Label) (zs records : List Record)
    → ((disk : ℕ) → used disk ≡ used_on zs disk) → zs ≡ records → text_of_disks used labels records ≡ text_of_disks (used_on records) labels records
same_disks used labels zs records is from =
    let alike : used ≡ used_on zs = λ i disk. is disk i in
    ap (λ (f : ℕ → ℕ). text_of_disks f labels records) (alike ∙ ap used_on from)
