use Rattle.std.proofs.Common.{◌≡◌, Ok, Err, refl, ap, subst}
use Rattle.ldm_copy.specs.declared.fault.OpenFault.{OpenFault}
use Rattle.ldm_text.specs.Texts.{text_of_refusal}
use Rattle.ldm_look.specs.Runs.{OnlyReads}
use Rattle.ldm_host.specs.declared.host.DiskRange.{DiskRange}
use Rattle.ldm_found.specs.declared.fault.OpenError.{OpenError}
use Rattle.ldm_found.specs.Answers.{FindsIn}
use Rattle.ldm_words.specs.declared.status.Status.TheVariants.{Refused, NoMemory, DiskFault}
use Rattle.ldm_look.specs.Opening.{text_of_open_fault}
use Rattle.ldm_host.specs.Failed.{failed_since}
use Rattle.ldm_rescue.specs.Rescue.{IsSaid, IsBegun}
use Rattle.ldm_rescue.proofs.ListLaws.{since_sooner}
use Rattle.ldm_rescue.proofs.OneLaws.{one_outcome}
use Rattle.ldm_rescue.proofs.EndLaws.{no_memory, disk_fault, rescues_nothing, rescues_refusal, rescues_first, said_more, begun_more, group_as}
use Rattle.ldm_rescue.proofs.rescuing.run_rescue.Goals as goal

pub returns-in-Err-Disk-clause-rescues : goal.returns-in-Err-Disk-clause-rescues
returns-in-Err-Disk-clause-rescues g c =
    let looks = c.in-Err-Disk.ensures.looks in
    rescues_nothing DiskFault c.ended.result c.ended.ensures (disk_fault _ _ (looks.cause (ap (λ (e : OpenError). Err e) c.in-Err-Disk.field-0-is))) looks

pub returns-in-Err-NoMemory-clause-rescues : goal.returns-in-Err-NoMemory-clause-rescues
returns-in-Err-NoMemory-clause-rescues g c =
    let looks = c.in-Err-NoMemory.ensures.looks in
    rescues_nothing NoMemory c.ended-in-Err-NoMemory.result c.ended-in-Err-NoMemory.ensures (no_memory _ _) looks

pub returns-in-Err-Fault-clause-rescues : goal.returns-in-Err-Fault-clause-rescues
returns-in-Err-Fault-clause-rescues g c =
    let images = (g.H.Host.seen c.args.host.now).content in
    let found = c.in-Err-Fault.ensures in
    let fault = c.in-Err-Fault.fault in
    let is_in = λ (told : g.H.Host.tells_disks). subst (λ (e : OpenError). FindsIn images (Err e)) c.in-Err-Fault.field-0-is (found.found told) in
    let reads = subst (λ (f : OpenFault). OnlyReads g.H.Host.tells_talk (g.H.Host.seen c.find_group.new.host) (g.H.Host.seen c.refuse.new.host) (λ answer. answer ≡ (text_of_refusal (text_of_open_fault f), Refused)) c.refuse.result)
    c.in-Err-Fault.fault-is c.refuse.ensures in
    rescues_first found.looks (λ told o is. is) (λ told o is. is)
    (rescues_refusal (text_of_open_fault fault) c.refuse.result c.ended-in-Err-Fault.result c.ended-in-Err-Fault.ensures
    (λ told. (Err fault, is_in told, refl))
    (λ told. (Err fault, is_in told, refl))
    g.met.H.Host.tells_both reads)

pub returns-in-Ok-clause-rescues : goal.returns-in-Ok-clause-rescues
returns-in-Ok-clause-rescues g c =
    let old = g.H.Host.seen c.args.host.now in
    let mid = g.H.Host.seen c.find_group.new.host in
    let new = g.H.Host.seen c.rescue_found.new.host in
    let found = c.in-Ok.ensures in
    let wider = λ (r : DiskRange). since_sooner old.failed mid.failed new.failed r found.looks.still.later.failed c.rescue_found.ensures.still.later.failed in
    rescues_first found.looks
    (λ told o is. (
      Ok c.in-Ok.found,
      found.found told,
      group_as (IsSaid mid.content (failed_since mid new)) (IsSaid old.content (failed_since old new))
          (λ f l s p one. said_more old.content mid.content (failed_since mid new) (failed_since old new) f l s p found.looks.still.content wider one) c.args.name.now c.args.section o (Ok c.in-Ok.found) is,
    ))
    (λ told o is. (
      Ok c.in-Ok.found,
      found.found told,
      group_as (IsBegun mid.content (failed_since mid new)) (IsBegun old.content (failed_since old new))
          (λ f l s p one. begun_more old.content mid.content (failed_since mid new) (failed_since old new) f l s p found.looks.still.content wider one) c.args.name.now c.args.section o (Ok c.in-Ok.found) is,
    ))
    c.rescue_found.ensures

pub returns-in-Err-Disk-clause-one : goal.returns-in-Err-Disk-clause-one
returns-in-Err-Disk-clause-one g c = one_outcome c.args.name.now c.args.section (g.H.Host.seen c.args.host.now).content

pub returns-in-Err-NoMemory-clause-one : goal.returns-in-Err-NoMemory-clause-one
returns-in-Err-NoMemory-clause-one g c = one_outcome c.args.name.now c.args.section (g.H.Host.seen c.args.host.now).content

pub returns-in-Err-Fault-clause-one : goal.returns-in-Err-Fault-clause-one
returns-in-Err-Fault-clause-one g c = one_outcome c.args.name.now c.args.section (g.H.Host.seen c.args.host.now).content

pub returns-in-Ok-clause-one : goal.returns-in-Ok-clause-one
returns-in-Ok-clause-one g c = one_outcome c.args.name.now c.args.section (g.H.Host.seen c.args.host.now).content
