use Rattle.std.proofs.Common.{◌≡◌, ◌∙◌, ℕ, List, Some, codes, subst}
use Rattle.ldm_host.proofs.Relations.{looks_itself}
use Rattle.ldm_words.specs.declared.status.Status.TheVariants.{NoMemory}
use Rattle.ldm_look.specs.Refusals.{refusal_for}
use Rattle.ldm_look.specs.Runs.{OnlyReads}
use Rattle.ldm_look.proofs.EndLaws.{says_nothing}
use Rattle.ldm_run.proofs.Saying.{failing}
use Rattle.ldm_run.proofs.scrub.refuse_missing.Goals as goal

pub returns-in_default : goal.returns-in_default
returns-in_default g c =
    let host = c.args.host.now in
    says_nothing (failing (g.H.Host.seen host) (g.H.Host.seen host) NoMemory tt) (looks_itself (g.H.Host.seen host) (g.met.H.Host.counts_now host) (g.met.H.Host.only_now host))

pub returns : goal.returns
returns g c =
    subst (λ (reason : List ℕ). OnlyReads g.H.Host.tells_talk (g.H.Host.seen c.args.host.now) (g.H.Host.seen c.refuse_for.new.host)
    (λ answer. answer ≡ refusal_for c.args.format.now (codes "missing") (Some c.args.disk) reason) c.refuse_for.result) (c.as_slice.ensures ∙ c.in-Ok.ensures) c.refuse_for.ensures.says
