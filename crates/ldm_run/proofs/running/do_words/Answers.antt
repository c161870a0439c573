use Rattle.std.proofs.Common.{rules, ◌≡◌, refl, None}
use Rattle.ldm_host.proofs.Relations.{still_itself}
use Rattle.ldm_words.specs.Jobs.{texts, job_of}
use Rattle.ldm_run.proofs.JobLaws.{nothing_read}
use Rattle.ldm_run.proofs.running.do_words.Goals as goal

pub returns-in-Err-Usage : goal.returns-in-Err-Usage
returns-in-Err-Usage g c =
    let unread : job_of (texts c.args.words.now) ≡ None = search rules in
    rw unread (tt, refl)

pub returns-in-Err-NoMemory : goal.returns-in-Err-NoMemory
returns-in-Err-NoMemory g c =
    let host = c.args.host.now in
    nothing_read g.H.Host.tells_disks g.H.Host.tells_talk (texts c.args.words.now) (job_of (texts c.args.words.now)) refl c.requires (still_itself (g.H.Host.seen host) (g.met.H.Host.counts_now host) (g.met.H.Host.only_now host))
    (λ tells. g.met.H.Host.one_each tells host) (λ tells. g.met.H.Host.lengths tells host) (tt, refl)

pub returns-in-Ok : goal.returns-in-Ok
returns-in-Ok g c = rw c.in-Ok.ensures.reads c.do_job.ensures
