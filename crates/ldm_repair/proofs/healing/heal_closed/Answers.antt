use Rattle.std.proofs.Common.{◌≡◌, List, length, slice_get, Some, Ok, Err, sym, ◌∙◌, ap, subst, arith}
use Rattle.ldm_label.specs.declared.Label.{Label}
use Rattle.ldm_found.specs.Gathers.{Gathers}
use Rattle.ldm_found.specs.Labels.{IsLabelOf}
use Rattle.ldm_found.specs.declared.fault.OpenError.TheVariants as errors
use Rattle.ldm_store.proofs.ClearLaws.{clear_of}
use Rattle.ldm_store.proofs.ResultLaws.{no_error, same_error}
use Rattle.ldm_repair.specs.Closing.{ClosesAll}
use Rattle.ldm_repair.specs.Repairing.{HoldsRepaired}
use Rattle.ldm_repair.proofs.GoodLabelLaws.{good_labels}
use Rattle.ldm_repair.proofs.HealLaws.{closing_failed, healing_done, healing_ends, no_ok}
use Rattle.ldm_repair.proofs.PastLaws.{closing_keeps_group, good_is_past}
use Rattle.ldm_repair.proofs.healing.heal_closed.Goals as goal

pub close_all-requires-clause-clear : goal.close_all-requires-clause-clear
close_all-requires-clause-clear g c disk label at =
    let found = c.args.found.now in
    (clear_of found.db found.labels (sym c.requires.sound.blocked_is ∙ c.requires.editable)).clear disk label (subst (λ (l : List Label). slice_get l disk ≡ Some label) c.as_slice.ensures at)

pub close_all-requires-clause-labelled : goal.close_all-requires-clause-labelled
close_all-requires-clause-labelled g c tells =
    let start = (g.H.Host.seen c.args.host.now).content in
    let past = c.requires.is tells in
    subst (λ (l : List Label). Gathers IsLabelOf start (Ok l)) (sym c.as_slice.ensures)
    (good_labels start past.0 c.args.damages.now c.args.found.now past.1 c.requires.labels past.2)

pub settle-requires : goal.settle-requires
settle-requires g c =
    let found = c.args.found.now in
    let several = (clear_of found.db found.labels (sym c.requires.sound.blocked_is ∙ c.requires.editable)).several in
    omega (arith, several, c.requires.lies.one_label, ap length c.close_all.ensures.works.later.sizes)

pub returns-in_err-close_all : goal.returns-in_err-close_all
returns-in_err-close_all g c =
    let a = g.H.Host.seen c.args.host.now in
    let b = g.H.Host.seen c.close_all.new.host in
    closing_failed closing_keeps_group good_is_past g.H.Host.tells_disks a c.args.found.now c.args.damages.now c.requires.sound c.requires.editable c.requires.labels c.requires.is b _ c.from_residual.result
    (subst (λ (l : List Label). ClosesAll g.H.Host.tells_disks (Err _) l c.args.damages.now a b) c.as_slice.ensures c.in_err-close_all.ensures) c.from_residual.ensures.1

pub returns-in_err-settle : goal.returns-in_err-settle
returns-in_err-settle g c =
    let a = g.H.Host.seen c.args.host.now in
    let b = g.H.Host.seen c.close_all.new.host in
    let d = g.H.Host.seen c.settle.new.host in
    let found = c.args.found.now in
    let result = c.from_residual-in_err-settle.result in
    let handed = c.from_residual-in_err-settle.ensures.1 in
    let settles = c.in_err-settle.ensures in
    healing_ends closing_keeps_group good_is_past g.H.Host.tells_disks a found c.args.damages.now c.requires.sound c.requires.editable c.requires.labels c.requires.is b d _
    (subst (λ (l : List Label). ClosesAll g.H.Host.tells_disks (Ok tt) l c.args.damages.now a b) c.as_slice.ensures c.in_ok-close_all.ensures)
    (λ told. g.met.H.Host.one_each told c.close_all.new.host) settles.any_moment settles.works result settles.handed
    (λ told. no_ok result _ (HoldsRepaired found a d) handed) (λ told fault is. settles.fault told fault (ap Err (same_error result _ (errors.Fault fault) handed is)))
    (λ is. ap Err (same_error result _ errors.Disk handed is))

pub returns : goal.returns
returns g c =
    let a = g.H.Host.seen c.args.host.now in
    let b = g.H.Host.seen c.close_all.new.host in
    let d = g.H.Host.seen c.settle.new.host in
    let found = c.args.found.now in
    let settles = c.in_ok-settle.ensures in
    let closes = subst (λ (l : List Label). ClosesAll g.H.Host.tells_disks (Ok tt) l c.args.damages.now a b) c.as_slice.ensures c.in_ok-close_all.ensures in
    let one_each : g.H.Host.tells_disks → length b.content ≡ length b.sizes = λ told. g.met.H.Host.one_each told c.close_all.new.host in
    healing_ends closing_keeps_group good_is_past g.H.Host.tells_disks a found c.args.damages.now c.requires.sound c.requires.editable c.requires.labels c.requires.is b d _ closes one_each settles.any_moment settles.works (Ok tt) settles.handed
    (healing_done closing_keeps_group good_is_past g.H.Host.tells_disks a found c.args.damages.now c.requires.sound c.requires.editable c.requires.labels c.requires.is b d _ closes one_each settles.any_moment settles.works
    c.in_ok-settle.field-0 settles.session
    (λ told. g.met.H.Host.counts_now c.settle.new.host b.clock d.content settles.works.later.clock (record { one_each = g.met.H.Host.one_each told c.settle.new.host; each = g.met.H.Host.may_stay told c.settle.new.host })))
    (λ told fault is. absurd (no_error _ _ is)) (λ is. absurd (no_error _ _ is))
