use Rattle.std.proofs.Common.{rules, ◌≡◌, refl, None, sym, subst, Option, ap}
use Rattle.ldm_words.specs.declared.job.Job.{Job}
use Rattle.ldm_words.specs.Jobs.{texts, job_of}
use Rattle.ldm_look.specs.Looks.{look_in, look_of}
use Rattle.ldm_look.proofs.AnswerLaws.{IsDone, usage_is, reads_of, one_look, completes}
use Rattle.ldm_look.proofs.looking.look.Goals as goal

pub returns-in-Err-Usage-clause-complete : goal.returns-in-Err-Usage-clause-complete
returns-in-Err-Usage-clause-complete g c tells =
    let host = c.args.host.now in
    let unread : job_of (texts c.args.words.now) ≡ None = search rules in
    rw unread (completes g.H.Host.tells_disks g.H.Host.seen host host _ None (tt, refl) tells)

pub returns-in-Ok : goal.returns-in-Ok
returns-in-Ok g c =
    let old = c.args.host.now in
    let new = c.look_job.new.host in
    let words = texts c.args.words.now in
    let is : look_of (job_of words) ≡ look_in c.in-Ok.job = ap look_of c.in-Ok.ensures.reads in
    let done = subst (λ (job : Option Job). IsDone g.H.Host.tells_disks g.H.Host.seen old new c.look_job.result job) (sym is) c.look_job.ensures in
    record {
      usage = usage_is g.H.Host.tells_disks g.H.Host.seen old new c.look_job.result (look_of (job_of words)) done;
      reads = reads_of g.H.Host.tells_disks g.H.Host.seen old new c.look_job.result (look_of (job_of words)) done;
      one = one_look words (g.H.Host.seen old).content;
      complete = completes g.H.Host.tells_disks g.H.Host.seen old new c.look_job.result (look_of (job_of words)) done;
    }
