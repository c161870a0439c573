use Rattle.std.proofs.Common.{sym, ◌∙◌}
use Rattle.ldm_words.specs.Commands.{token_bytes}
use Rattle.ldm_words.specs.Names.{name_of}
use Rattle.ldm_words.proofs.JobLaws.{init_limits}
use Rattle.ldm_words.proofs.job.read_init.Goals as goal

pub returns-in-Some-3-clause-limits : goal.returns-in-Some-3-clause-limits
returns-in-Some-3-clause-limits c = init_limits c.in-Some-2.name c.in-Some-3.disks (name_of c.as_bytes-2.result.now) (token_bytes c.deref.result.now) (sym c.in_ok-name.ensures ∙ c.in-Some-2.is) (sym c.in_ok-disks.ensures ∙ c.in-Some-3.is)
