use Rattle.std.proofs.Common.{rules, ◌≡◌, List, ℕ, ◌++◌, take, ◌∙◌, ap}
use Rattle.ldm_look.proofs.EndLaws.{talk_failed}
use Rattle.ldm_scan.proofs.running.say_findings.Goals as goal

pub returns-clause-says : goal.returns-clause-says
returns-clause-says g c text made =
    let old = g.H.Host.seen c.args.host.now in
    let front = c.say.ensures.front in
    let bytes : c.as_slice.result.now ≡ text = c.as_slice.ensures ∙ rw c.in-Ok.is at made in
    talk_failed front.0 (front.1 ∙ ap (λ (l : List ℕ). old.said ++ take front.0 l) bytes) (search rules) c.say.ensures.still (record { input = c.say.ensures.input; heard = c.say.ensures.heard })
