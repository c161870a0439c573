-- What a host in memory holds is what its calls have made.
use Rattle.std.specs.Prelude.{◌≡◌, ℕ, ◌+◌, ◌≤◌, max, List, [], ◌∷◌, length, Vec}
use Rattle.std.specs.declared.alloc.Global.{Global}
use Rattle.ldm_memory.specs.declared.call.Call.{Call}
use Rattle.ldm_host.specs.Images.{items_of}
use Rattle.ldm_bytes.specs.Numbers.{IsBytes}
use Rattle.ldm_memory.specs.Story.{Disk, Agrees, disk_at, run, state_at, contents, fresh_state}

-- where the last of the ranges ends; 0 for none
abbrev pub reach : List (ℕ × ℕ) → ℕ
reach [] = 0
reach (range ∷ ranges) = max (range.0 + range.1) (reach ranges)

-- what a disk is at each time
pub record IsHeld (disk : Disk) : Type 0 where
  -- it holds bytes
  pub bytes : IsBytes disk.content
  -- what is pending lies in it
  pub within : reach disk.pending ≤ length disk.content
  -- a stop may leave what was last synced
  pub old : Agrees disk disk.synced

pub record IsKeptHost (first : List (List ℕ)) (calls : List Call) (script : List ℕ) (now : List (Vec ℕ Global)) (said : List ℕ) (heard : ℕ) (handed : List ℕ) : Type 0 where
  -- the images
  pub content : items_of now ≡ contents (run (fresh_state first) calls).disks
  -- the bytes said, and how many bytes of the script were heard
  pub said_is : said ≡ (run (fresh_state first) calls).said
  pub heard_is : heard ≡ (run (fresh_state first) calls).heard
  pub heard_fits : heard ≤ length script
  -- one count of bytes handed for each disk
  pub each : length handed ≡ length now
  -- each disk after each number of calls
  pub held : (k disk : ℕ) → IsHeld (disk_at (state_at (fresh_state first) calls k).disks disk)
