use Rattle.std.proofs.Common.{ℕ, codes, refl, ◌∙◌, ap}
use Rattle.ldm_text.specs.Texts.{text_of_refusal}
use Rattle.ldm_host.specs.Failed.{failed_since}
use Rattle.ldm_rescue.specs.Rescue.{refusal, asked_section, IsSaid, IsBegun}
use Rattle.ldm_rescue.proofs.EndLaws.{rescues_refusal, rescues_as, of_asked}
use Rattle.ldm_rescue.proofs.rescuing.rescue_plan.Goals as goal

pub returns-in-None : goal.returns-in-None
returns-in-None g c =
    let old = g.H.Host.seen c.args.host.now in
    let failed = failed_since old (g.H.Host.seen c.say_made.new.host) in
    let none = c.in-None.ensures.is ∙ ap (λ (n : ℕ). asked_section n c.args.section) c.size.ensures in
    rescues_refusal (codes "bad range") c.say_made.result c.ended.result c.ended.ensures
    (λ told. of_asked (IsSaid old.content failed c.args.found.now c.args.plan.now) _ _ (refusal (codes "bad range")) none refl)
    (λ told. of_asked (IsBegun old.content failed c.args.found.now c.args.plan.now) _ _ (refusal (codes "bad range")) none refl)
    g.met.H.Host.tells_both
    (c.say_made.ensures.says (text_of_refusal (codes "bad range")) c.refusal_text-line.ensures)

pub returns-in-Some : goal.returns-in-Some
returns-in-Some g c =
    let old = g.H.Host.seen c.args.host.now in
    let failed = failed_since old (g.H.Host.seen c.rescue_section.new.host) in
    let some = c.in-Some.ensures.is ∙ ap (λ (n : ℕ). asked_section n c.args.section) c.size.ensures in
    rescues_as
    (λ o is. of_asked (IsSaid old.content failed c.args.found.now c.args.plan.now) _ _ o some is)
    (λ o is. of_asked (IsBegun old.content failed c.args.found.now c.args.plan.now) _ _ o some is)
    c.rescue_section.ensures
