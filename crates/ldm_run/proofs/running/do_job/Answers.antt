use Rattle.std.proofs.Common.{refl}
use Rattle.ldm_words.specs.declared.job.Job.TheVariants.{Disk, Records, Scan, Show, Check, Map}
use Rattle.ldm_run.proofs.JobLaws.{of_job, reads_job}
use Rattle.ldm_run.proofs.running.do_job.Goals as goal

pub returns-in-Disk : goal.returns-in-Disk
returns-in-Disk g c = of_job c.in-Disk.is (reads_job (Disk c.in-Disk.format) refl c.disk.ensures)

pub returns-in-Records : goal.returns-in-Records
returns-in-Records g c = of_job c.in-Records.is (reads_job (Records c.in-Records.format) refl c.records.ensures)

pub returns-in-Scan : goal.returns-in-Scan
returns-in-Scan g c = of_job c.in-Scan.is (reads_job (Scan c.in-Scan.format) refl c.scan.ensures)

pub returns-in-Show : goal.returns-in-Show
returns-in-Show g c = of_job c.in-Show.is (reads_job (Show c.in-Show.format) refl c.show.ensures)

pub returns-in-Check : goal.returns-in-Check
returns-in-Check g c = of_job c.in-Check.is (reads_job (Check c.in-Check.format) refl c.check.ensures)

pub returns-in-Map : goal.returns-in-Map
returns-in-Map g c = of_job c.in-Map.is (reads_job (Map c.in-Map.name c.in-Map.first c.in-Map.count c.in-Map.format) refl c.map.ensures)
