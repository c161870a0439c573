-- The faults of a copy's parts, as faults of the copy.
use Rattle.ldm_vmdb.specs.declared.header.VmdbError.{VmdbError}
use Rattle.ldm_vmdb.specs.declared.header.VmdbError.TheVariants as vmdb_errors
use Rattle.ldm_frags.specs.declared.faults.FragError.{FragError}
use Rattle.ldm_frags.specs.declared.faults.FragError.TheVariants as frag_errors
use Rattle.ldm_copy.specs.declared.answer.CopyError.{CopyError}
use Rattle.ldm_copy.specs.declared.answer.CopyError.TheVariants.{Fault, NoMemory}
use Rattle.ldm_copy.specs.declared.answer.CopyFault.TheVariants.{Vmdb, Frag}

abbrev pub of_vmdb : VmdbError → CopyError
of_vmdb (vmdb_errors.Fault fault) = Fault (Vmdb fault)
of_vmdb vmdb_errors.NoMemory = NoMemory

abbrev pub of_frag : FragError → CopyError
of_frag (frag_errors.Fault fault) = Fault (Frag fault)
of_frag frag_errors.NoMemory = NoMemory
