-- The status with which a run ends.
use Rattle.std.specs.Prelude.{Result, Ok, Err}
use Rattle.ldm_words.specs.declared.status.Status.{Status}
use Rattle.ldm_words.specs.declared.status.Status.TheVariants as statuses
use Rattle.ldm_edge.specs.declared.stop.Stop.{Stop}
use Rattle.ldm_edge.specs.declared.stop.Stop.TheVariants.{Usage, NotUtf8, CannotOpen, Disk, NoMemory, Talk}

-- where it isn't with an answer
abbrev pub stop_status : {U : Type 0} → Stop U → Status
stop_status (Usage error) = statuses.Usage
stop_status NotUtf8 = statuses.Usage
stop_status (CannotOpen image name error) = statuses.DiskFault
stop_status (Disk fault) = statuses.DiskFault
stop_status (NoMemory written) = statuses.NoMemory
stop_status (Talk fault) = statuses.TalkFault

abbrev pub end_status : {U : Type 0} → Result Status (Stop U) → Status
end_status (Ok status) = status
end_status (Err stop) = stop_status stop
