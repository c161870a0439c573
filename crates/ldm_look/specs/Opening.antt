-- The texts of the faults of a group. Images are counted from 0.
use Rattle.std.specs.Prelude.{ℕ, List, ◌++◌, codes, decimal}
use Rattle.ldm_copy.specs.declared.fault.OpenFault.{OpenFault}
use Rattle.ldm_copy.specs.declared.fault.OpenFault.TheVariants.{Label, SameDisk, Copy, NoCopy, Split, Stranger, Rule, Absent, FewDisks, AreaSmall, AreaClash}
use Rattle.ldm_text.specs.Texts.{text_of_label_fault, text_of_image_fault}
use Rattle.ldm_text.specs.Records.{text_of_copy_fault}

-- images I and J, and what is said of them
abbrev pub text_of_images : ℕ → ℕ → List ℕ → List ℕ
text_of_images i j said = codes "images " ++ decimal i ++ codes " and " ++ decimal j ++ said

abbrev pub text_of_open_fault : OpenFault → List ℕ
text_of_open_fault (Label i fault) = text_of_image_fault i (text_of_label_fault fault)
text_of_open_fault (SameDisk i j) = text_of_images i j (codes " are one disk")
text_of_open_fault (Copy i fault) = text_of_image_fault i (text_of_copy_fault fault)
text_of_open_fault NoCopy = codes "no open copy"
text_of_open_fault (Split i j) = text_of_images i j (codes " differ at one sequence")
text_of_open_fault (Stranger i) = codes "image " ++ decimal i ++ codes " is not of the group"
text_of_open_fault (Rule fault) = codes "rule " ++ decimal fault.rule ++ codes " at " ++ decimal fault.id
text_of_open_fault (Absent id) = codes "disk " ++ decimal id ++ codes " is absent"
text_of_open_fault FewDisks = codes "fewer than two disks"
text_of_open_fault (AreaSmall i) = text_of_image_fault i (codes "area too small")
text_of_open_fault (AreaClash i) = text_of_image_fault i (codes "area clash")
