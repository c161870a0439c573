-- What was seen of a host before one of its disks was read alone, where nothing is known of it.
use Rattle.std.specs.Prelude.{[], false}
use Rattle.ldm_host.specs.Seen.{Seen}

abbrev pub nothing_known : Seen
nothing_known = record {
  sizes = [];
  content = [];
  may_leave = λ disk c. ⊥;
  clock = 0;
  left_since = λ t images said. ⊥;
  said = [];
  heard = record { bytes = []; ended = false };
  input = [];
  disk_faults = 0;
  talk_faults = 0;
  failed = [];
  wrote = [];
}
