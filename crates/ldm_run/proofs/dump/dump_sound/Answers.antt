use Rattle.std.proofs.Common.{refl, ap, Err}
use Rattle.ldm_dump.specs.declared.dumping.DumpError.{DumpError}
use Rattle.ldm_words.specs.declared.status.Status.TheVariants.{DiskFault, TalkFault}
use Rattle.ldm_run.proofs.Saying.{failing, says_all}
use Rattle.ldm_look.proofs.EndLaws.{says_part}
use Rattle.ldm_run.proofs.dump.dump_sound.Goals as goal

pub returns-in-Ok-dump_sectors-clause-says : goal.returns-in-Ok-dump_sectors-clause-says
returns-in-Ok-dump_sectors-clause-says g c =
    let made = c.in-Ok-dump_sectors.ensures in
    says_all (λ no. no) tt (λ told. refl) made.said made.still made.input

pub returns-in-Err-Disk-clause-says : goal.returns-in-Err-Disk-clause-says
returns-in-Err-Disk-clause-says g c =
    let made = c.in-Err-Disk.ensures in
    let rose = made.disk (ap (λ (e : DumpError). Err e) c.in-Err-Disk.field-0-is) in
    says_part (λ is. absurd cc) (failing (g.H.Host.seen c.args.host.now) (g.H.Host.seen c.dump_sectors.new.host) DiskFault rose) made.front made.still made.input

pub returns-clause-says : goal.returns-clause-says
returns-clause-says g c =
    let made = c.in-Err-Talk.ensures in
    let rose = made.talk (ap (λ (e : DumpError). Err e) c.in-Err-Talk.field-0-is) in
    says_part (λ is. absurd cc) (failing (g.H.Host.seen c.args.host.now) (g.H.Host.seen c.dump_sectors.new.host) TalkFault rose) made.front made.still made.input

pub returns-in-Err-Disk-clause-whole : goal.returns-in-Err-Disk-clause-whole
returns-in-Err-Disk-clause-whole g c told breaks = c.in-Err-Disk.ensures.sectors told (ap (λ (e : DumpError). Err e) c.in-Err-Disk.field-0-is)
