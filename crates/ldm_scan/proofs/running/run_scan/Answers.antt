use Rattle.std.proofs.Common.{◌≡◌, ◌∙◌, List, sym, subst}
use Rattle.ldm_look.specs.Runs.{Answers, OnlyReads}
use Rattle.ldm_words.specs.declared.status.Status.TheVariants.{Done}
use Rattle.ldm_scan.specs.declared.finding.Finding.{Finding}
use Rattle.ldm_host.specs.Failed.{failed_since}
use Rattle.ldm_scan.specs.Findings.{said_findings, AreFindings, IsFindingsAnswer}
use Rattle.ldm_scan.proofs.FailLaws.{both_still, same_wrote}
use Rattle.ldm_scan.proofs.FindingLaws.{ok_at, one_answer}
use Rattle.ldm_scan.proofs.RunLaws.{none_said, completes_past, said_answers, said_causes}
use Rattle.ldm_scan.proofs.running.run_scan.Goals as goal

pub returns-in-Err-clause-answers : goal.returns-in-Err-clause-answers
returns-in-Err-clause-answers g c tells =
    let a = g.H.Host.seen c.args.host in
    let b = g.H.Host.seen c.scan_each-host.result.0 in
    none_said a b (IsFindingsAnswer c.args.format.now c.args.causes.now (failed_since a b) a.content) c.scan_each-host.ensures.quiet

pub returns-in-Err-clause-one : goal.returns-in-Err-clause-one
returns-in-Err-clause-one g c failed = one_answer c.args.format.now c.args.causes.now failed (g.H.Host.seen c.args.host).content

pub returns-in-Err-clause-handed : goal.returns-in-Err-clause-handed
returns-in-Err-clause-handed g c = same_wrote (g.H.Host.seen c.args.host) (g.H.Host.seen c.scan_each-host.result.0) c.scan_each-host.ensures.still

pub returns-in-Ok-clause-one : goal.returns-in-Ok-clause-one
returns-in-Ok-clause-one g c failed = one_answer c.args.format.now c.args.causes.now failed (g.H.Host.seen c.args.host).content

pub returns-in-Ok-clause-answers : goal.returns-in-Ok-clause-answers
returns-in-Ok-clause-answers g c tells =
    let a = g.H.Host.seen c.args.host in
    let b = g.H.Host.seen c.scan_each-host.result.0 in
    let d = g.H.Host.seen c.say_findings-status.new.host in
    let are = ok_at c.scan_each-host.result.1 (λ f. AreFindings (failed_since a b) a.content 0 c.args.causes.now f.items) c.in-Ok.findings c.in-Ok.is (c.scan_each-host.ensures.is tells) in
    let found = subst (λ (l : List Finding). AreFindings (failed_since a b) a.content 0 c.args.causes.now l) (sym c.deref.ensures.value) are in
    said_answers c.args.format.now c.args.causes.now c.deref.result.now a b d c.say_findings-status.result c.say_findings-status.ensures.account c.scan_each-host.ensures.quiet.said found
    ((c.say_findings-status.ensures.says (said_findings c.args.format.now c.deref.result.now) c.said_findings-text.ensures).ends.answers (g.met.H.Host.tells_both tells))

pub returns-in-Ok-clause-no_usage : goal.returns-in-Ok-clause-no_usage
returns-in-Ok-clause-no_usage g c =
    (c.say_findings-status.ensures.says (said_findings c.args.format.now c.deref.result.now) c.said_findings-text.ensures).ends.no_usage

pub returns-in-Ok-clause-causes : goal.returns-in-Ok-clause-causes
returns-in-Ok-clause-causes g c =
    let a = g.H.Host.seen c.args.host in
    let b = g.H.Host.seen c.scan_each-host.result.0 in
    let d = g.H.Host.seen c.say_findings-status.new.host in
    said_causes c.args.format.now c.args.causes.now c.deref.result.now a b d c.say_findings-status.result c.say_findings-status.ensures.account c.scan_each-host.ensures.still c.say_findings-status.ensures.no_disk
    (c.say_findings-status.ensures.says (said_findings c.args.format.now c.deref.result.now) c.said_findings-text.ensures).ends.causes

pub returns-in-Ok-clause-complete : goal.returns-in-Ok-clause-complete
returns-in-Ok-clause-complete g c tells none some =
    let a = g.H.Host.seen c.args.host in
    let d = g.H.Host.seen c.say_findings-status.new.host in
    completes_past a d (IsFindingsAnswer c.args.format.now c.args.causes.now (failed_since a d) a.content) c.say_findings-status.result
    c.say_findings-status.ensures.no_disk (returns-in-Ok-clause-no_usage g c) (returns-in-Ok-clause-answers g c tells) (returns-in-Ok-clause-causes g c) none some

pub returns-in-Ok-clause-silent : goal.returns-in-Ok-clause-silent
returns-in-Ok-clause-silent g c silent =
    (c.say_findings-status.ensures.says (said_findings c.args.format.now c.deref.result.now) c.said_findings-text.ensures).silent silent ∙ c.scan_each-host.ensures.quiet.said

pub returns-in-Ok-clause-still : goal.returns-in-Ok-clause-still
returns-in-Ok-clause-still g c =
    both_still (g.H.Host.seen c.args.host) (g.H.Host.seen c.scan_each-host.result.0) (g.H.Host.seen c.say_findings-status.new.host) c.scan_each-host.ensures.still
    ∣ (c.say_findings-status.ensures.says (said_findings c.args.format.now c.deref.result.now) c.said_findings-text.ensures).still ∣₁

pub returns-in-Ok-clause-handed : goal.returns-in-Ok-clause-handed
returns-in-Ok-clause-handed g c =
    same_wrote (g.H.Host.seen c.args.host) (g.H.Host.seen c.say_findings-status.new.host) (returns-in-Ok-clause-still g c)

pub returns-in-Ok-clause-input : goal.returns-in-Ok-clause-input
returns-in-Ok-clause-input g c =
    let says = c.say_findings-status.ensures.says (said_findings c.args.format.now c.deref.result.now) c.said_findings-text.ensures in
    record { input = says.input.input ∙ c.scan_each-host.ensures.quiet.input; heard = says.input.heard ∙ c.scan_each-host.ensures.quiet.heard }
