use Rattle.std.proofs.Common.{◌∙◌, ◌<◌, ℕ, List, Err, length, sym, ap, subst}
use Rattle.ldm_view.specs.Patches.{shown}
use Rattle.ldm_damage.specs.declared.error.DamageError.{DamageError}
use Rattle.ldm_damage.specs.Views.{AreDamaged}
use Rattle.ldm_damage.proofs.LookLaws.{same_content, same_sizes, ok_at}
use Rattle.ldm_words.specs.declared.status.Status.{Status}
use Rattle.ldm_look.proofs.EndLaws.{Failing}
use Rattle.ldm_repair.proofs.AnswerLaws.{damage_failing}
use Rattle.ldm_repair.proofs.RepairLaws.{looked_out, pending_still, repairs_behind, repairs_failed}
use Rattle.ldm_repair.proofs.repairing.repair_synced.Goals as goal

pub repair_past-requires-clause-images : goal.repair_past-requires-clause-images
repair_past-requires-clause-images g c =
    let seen = g.H.Host.seen in
    subst (λ (l : List ℕ). 0 < length l) (sym (same_sizes (seen c.args.host) (seen c.find_damage-under.result.0.host) c.find_damage-under.ensures.looked.still)) c.requires.images

pub repair_past-requires-clause-settled : goal.repair_past-requires-clause-settled
repair_past-requires-clause-settled g c =
    let seen = g.H.Host.seen in
    pending_still (seen c.args.host) (seen c.find_damage-under.result.0.host) c.find_damage-under.ensures.looked.still c.requires.settled

pub repair_past-requires-clause-damaged : goal.repair_past-requires-clause-damaged
repair_past-requires-clause-damaged g c told =
    let seen = g.H.Host.seen in
    let a = seen c.args.host in
    let patches = c.find_damage-under.result.0.patches.items in
    subst (λ (l : List (List ℕ)). AreDamaged l c.in-Ok.damages.items (shown patches l)) (sym (same_content a (seen c.find_damage-under.result.0.host) c.find_damage-under.ensures.looked.still))
    (ok_at c.find_damage-under.result.1 (λ d. AreDamaged a.content d.items (shown patches a.content)) c.in-Ok.damages c.in-Ok.is (c.find_damage-under.ensures.is told))

pub returns-in-Ok-clause-repairs : goal.returns-in-Ok-clause-repairs
returns-in-Ok-clause-repairs g c =
    let seen = g.H.Host.seen in
    repairs_behind g.H.Host.tells_disks (seen c.args.host) (seen c.find_damage-under.result.0.host) (seen c.repair_past.result.host) c.repair_past.result.status _ (λ told. g.met.H.Host.one_each told c.args.host)
    c.requires.settled c.find_damage-under.ensures.looked c.repair_past.ensures.repairs

pub returns-in-Err-clause-repairs : goal.returns-in-Err-clause-repairs
returns-in-Err-clause-repairs g c =
    let seen = g.H.Host.seen in
    let a = seen c.args.host in
    let b = seen c.host_of.result in
    let looked = looked_out seen a c.find_damage-under.result.0.host c.host_of.result c.host_of.ensures c.find_damage-under.ensures.looked in
    let fails = damage_failing a b c.in-Err.error (λ is. looked.cause (c.in-Err.is ∙ ap (λ (e : DamageError). Err e) is)) in
    repairs_failed g.H.Host.tells_disks a b c.damage_status.result (subst (λ (s : Status). Failing a b s) (sym c.damage_status.ensures) fails) _ (λ told. g.met.H.Host.one_each told c.args.host) c.requires.settled looked
