use Rattle.std.proofs.Common.{◌≡◌, ℕ, List, Err, rules, sym, subst}
use Rattle.ldm_view.specs.Patches.{shown}
use Rattle.ldm_found.specs.declared.fault.OpenError.TheVariants as errors
use Rattle.ldm_damage.specs.declared.damage.Damage.{Damage}
use Rattle.ldm_damage.specs.Views.{AreDamaged}
use Rattle.ldm_damage.proofs.LookLaws.{same_content, same_sizes, ok_at}
use Rattle.ldm_look.specs.Opening.{text_of_open_fault}
use Rattle.ldm_look.specs.Said.{refused}
use Rattle.ldm_words.specs.declared.status.Status.TheVariants.{DiskFault, NoMemory}
use Rattle.ldm_repair.specs.Repairing.{IsRepairAnswer, MayRepair}
use Rattle.ldm_repair.specs.Stages.{IsPlanned}
use Rattle.ldm_repair.proofs.AnswerLaws.{group_refused, group_bars}
use Rattle.ldm_repair.proofs.RepairLaws.{looked_out, pending_still, repairs_behind, repairs_failed, disk_failing, memory_failing}
use Rattle.ldm_repair.proofs.repairing.repair_found.Goals as goal

pub heal_and_say-requires-clause-settled : goal.heal_and_say-requires-clause-settled
heal_and_say-requires-clause-settled g c =
    let seen = g.H.Host.seen in
    let looked = looked_out seen (seen c.args.under.host) c.plan_repair-under.result.0.host c.host_of-host.result c.host_of-host.ensures c.plan_repair-under.ensures.looked in
    pending_still (seen c.args.under.host) (seen c.host_of-host.result) looked.still c.requires.settled

pub heal_and_say-requires-clause-planned : goal.heal_and_say-requires-clause-planned
heal_and_say-requires-clause-planned g c =
    let seen = g.H.Host.seen in
    let a = seen c.args.under.host in
    let b = seen c.host_of-host.result in
    let looked = looked_out seen a c.plan_repair-under.result.0.host c.host_of-host.result c.host_of-host.ensures c.plan_repair-under.ensures.looked in
    let views = shown c.args.under.patches.items a.content in
    let plan = c.in-Ok.plan in
    let tells = g.H.Host.tells_disks in (
      views,
      λ told. subst (λ (l : List (List ℕ)). AreDamaged l c.args.damages.items views) (sym (same_content a b looked.still)) (c.requires.damaged told),
      subst (λ (l : List ℕ). IsPlanned tells views l c.args.damages.items plan) (sym (same_sizes a b looked.still))
          (subst (λ (d : List Damage). IsPlanned tells views a.sizes d plan) c.deref.ensures.value
          (ok_at c.plan_repair-under.result.1 (IsPlanned tells views a.sizes c.deref.result.now) plan c.in-Ok.is c.plan_repair-under.ensures.planned)),
    )

pub returns-in-Ok-clause-repairs : goal.returns-in-Ok-clause-repairs
returns-in-Ok-clause-repairs g c =
    let seen = g.H.Host.seen in
    let a = seen c.args.under.host in
    repairs_behind g.H.Host.tells_disks a (seen c.host_of-host.result) (seen c.heal_and_say.result.host) c.heal_and_say.result.status _ (λ told. g.met.H.Host.one_each told c.args.under.host) c.requires.settled
    (looked_out seen a c.plan_repair-under.result.0.host c.host_of-host.result c.host_of-host.ensures c.plan_repair-under.ensures.looked)
    c.heal_and_say.ensures.repairs

pub refuse_repair-requires-clause-refused : goal.refuse_repair-requires-clause-refused
refuse_repair-requires-clause-refused g c told =
    let seen = g.H.Host.seen in
    let a = seen c.args.under.host in
    let b = seen c.host_of-host.result in
    let looked = looked_out seen a c.plan_repair-under.result.0.host c.host_of-host.result c.host_of-host.ensures c.plan_repair-under.ensures.looked in
    let fault = c.in-Err-Fault.fault in
    let failed : c.plan_repair-under.result.1 ≡ Err (errors.Fault fault) = search rules in
    subst (λ (l : List (List ℕ)). IsRepairAnswer l (refused (text_of_open_fault fault))) (sym (same_content a b looked.still))
    (group_refused a.content (shown c.args.under.patches.items a.content) c.args.damages.items (c.requires.damaged told) c.requires.labels fault (c.plan_repair-under.ensures.fault told fault failed))

pub refuse_repair-requires-clause-none : goal.refuse_repair-requires-clause-none
refuse_repair-requires-clause-none g c told found may =
    let seen = g.H.Host.seen in
    let a = seen c.args.under.host in
    let b = seen c.host_of-host.result in
    let looked = looked_out seen a c.plan_repair-under.result.0.host c.host_of-host.result c.host_of-host.ensures c.plan_repair-under.ensures.looked in
    let fault = c.in-Err-Fault.fault in
    let failed : c.plan_repair-under.result.1 ≡ Err (errors.Fault fault) = search rules in
    group_bars a.content (shown c.args.under.patches.items a.content) c.args.damages.items (c.requires.damaged told) c.requires.labels fault (c.plan_repair-under.ensures.fault told fault failed) found
    (subst (λ (l : List (List ℕ)). MayRepair l found) (same_content a b looked.still) may)

pub returns-in-Err-Fault-clause-repairs : goal.returns-in-Err-Fault-clause-repairs
returns-in-Err-Fault-clause-repairs g c =
    let seen = g.H.Host.seen in
    let a = seen c.args.under.host in
    repairs_behind g.H.Host.tells_disks a (seen c.host_of-host.result) (seen c.refuse_repair.result.host) c.refuse_repair.result.status _ (λ told. g.met.H.Host.one_each told c.args.under.host) c.requires.settled
    (looked_out seen a c.plan_repair-under.result.0.host c.host_of-host.result c.host_of-host.ensures c.plan_repair-under.ensures.looked)
    c.refuse_repair.ensures.repairs

pub returns-in-Err-Disk-clause-repairs : goal.returns-in-Err-Disk-clause-repairs
returns-in-Err-Disk-clause-repairs g c =
    let seen = g.H.Host.seen in
    let a = seen c.args.under.host in
    let b = seen c.host_of-host.result in
    let looked = looked_out seen a c.plan_repair-under.result.0.host c.host_of-host.result c.host_of-host.ensures c.plan_repair-under.ensures.looked in
    let failed : c.plan_repair-under.result.1 ≡ Err errors.Disk = search rules in
    repairs_failed g.H.Host.tells_disks a b DiskFault (disk_failing a b (looked.cause failed)) _ (λ told. g.met.H.Host.one_each told c.args.under.host) c.requires.settled looked

pub returns-in-Err-NoMemory-clause-repairs : goal.returns-in-Err-NoMemory-clause-repairs
returns-in-Err-NoMemory-clause-repairs g c =
    let seen = g.H.Host.seen in
    let a = seen c.args.under.host in
    let b = seen c.host_of-host.result in
    let looked = looked_out seen a c.plan_repair-under.result.0.host c.host_of-host.result c.host_of-host.ensures c.plan_repair-under.ensures.looked in
    repairs_failed g.H.Host.tells_disks a b NoMemory (memory_failing a b) _ (λ told. g.met.H.Host.one_each told c.args.under.host) c.requires.settled looked
