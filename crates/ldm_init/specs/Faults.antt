-- Why disks are not made a group.
use Rattle.std.specs.Prelude.{◌≡◌, ℕ, ◌+◌, ◌-◌, ◌*◌, ◌<◌, ◌≤◌, ◌==◌, ◌&&◌, Bool, false, List, Option, Some, None, Result, Ok, Err, map, slice_range}
use Rattle.std.specs.List.{list_all}
use Rattle.ldm_label.specs.Fields.{sectors_of}
use Rattle.ldm_found.specs.Gathers.{IsFirst}
use Rattle.ldm_found.specs.Labels.{AreTwins}
use Rattle.ldm_init.specs.declared.faults.InitError.{InitError}
use Rattle.ldm_init.specs.declared.faults.InitError.TheVariants as errors
use Rattle.ldm_init.specs.declared.faults.InitFault.{InitFault}
use Rattle.ldm_init.specs.declared.faults.InitFault.TheVariants.{SameGuid, TooSmall, TooLarge, NotEmpty}
use Rattle.ldm_init.specs.NewGroup.{new_labels}

-- too few sectors for the first 63, one of data and the last 2048
abbrev pub IsSmall : ℕ → Type 0
IsSmall sectors = sectors < 2112

-- more sectors than the 32-bit numbers of an MBR can count
abbrev pub IsTooLarge : ℕ → Type 0
IsTooLarge sectors = 4294967296 ≤ sectors

abbrev pub are_zero : List ℕ → Bool
are_zero bytes = list_all (λ byte. byte == 0) bytes

-- the first 63 sectors are zero, and the last 2048
unfoldable pub is_empty : List ℕ → Bool
is_empty image =
    let last = 512 * (sectors_of image - 2048) in
    are_zero (slice_range image 0 (512 * 63)) && are_zero (slice_range image last (last + 512 * 2048))

abbrev pub IsFull : List ℕ → Type 0
IsFull image = is_empty image ≡ false

-- The first reason why disks of these sizes, with these images, are not made a group on these GUIDs, or none.
abbrev pub IsFaultOf : List ℕ → List ℕ → List (List ℕ) → Option InitFault → Type 0
IsFaultOf guids sizes images (Some (SameGuid i j)) = AreTwins (new_labels sizes guids) (Some (i, j))
IsFaultOf guids sizes images (Some (TooSmall i)) = AreTwins (new_labels sizes guids) None × IsFirst IsSmall sizes (Some i)
IsFaultOf guids sizes images (Some (TooLarge i)) = AreTwins (new_labels sizes guids) None × IsFirst IsSmall sizes None × IsFirst IsTooLarge sizes (Some i)
IsFaultOf guids sizes images (Some (NotEmpty i)) = AreTwins (new_labels sizes guids) None × IsFirst IsSmall sizes None × IsFirst IsTooLarge sizes None × IsFirst IsFull images (Some i)
IsFaultOf guids sizes images None = AreTwins (new_labels sizes guids) None × IsFirst IsSmall sizes None × IsFirst IsTooLarge sizes None × IsFirst IsFull images None

-- exactly that is answered, or that a disk failed
abbrev pub ChecksDisks : List ℕ → List ℕ → List (List ℕ) → Result (Unit {0}) InitError → Type 0
ChecksDisks guids sizes images (Ok checked) = IsFaultOf guids sizes images None
ChecksDisks guids sizes images (Err (errors.Fault fault)) = IsFaultOf guids sizes images (Some fault)
ChecksDisks guids sizes images (Err errors.Disk) = Unit {0}
ChecksDisks guids sizes images (Err errors.NoMemory) = ⊥

-- this is the fault of whole disks that are to be a new group
abbrev pub IsInitFault : List ℕ → List (List ℕ) → Option InitFault → Type 0
IsInitFault guids images fault = IsFaultOf guids (map sectors_of images) images fault

-- what a call answers that makes the group then: Ok without a fault, exactly the fault, or that a disk or memory failed
abbrev pub InitAnswers : List ℕ → List (List ℕ) → Result (Unit {0}) InitError → Type 0
InitAnswers guids images (Ok made) = IsInitFault guids images None
InitAnswers guids images (Err (errors.Fault fault)) = IsInitFault guids images (Some fault)
InitAnswers guids images (Err errors.Disk) = Unit {0}
InitAnswers guids images (Err errors.NoMemory) = Unit {0}
