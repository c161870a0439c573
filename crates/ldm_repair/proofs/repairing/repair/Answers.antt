use Rattle.std.proofs.Common.{◌<◌, ℕ, List, length, refl, sym, subst, IfSome, IsErr}
use Rattle.ldm_damage.specs.Views.{AreDamaged}
use Rattle.ldm_words.specs.declared.status.Status.TheVariants.{DiskFault}
use Rattle.ldm_repair.proofs.AnswerLaws.{one_repair}
use Rattle.ldm_repair.proofs.RepairLaws.{repairs_synced, repairs_unsynced, repairs_complete}
use Rattle.ldm_repair.proofs.repairing.repair.Goals as goal

pub repair_synced-requires-clause-images : goal.repair_synced-requires-clause-images
repair_synced-requires-clause-images g c = subst (λ (l : List ℕ). 0 < length l) (sym c.sync_all.ensures.settles.later.sizes) c.requires

pub returns-in-Ok-clause-answers : goal.returns-in-Ok-clause-answers
returns-in-Ok-clause-answers g c =
    let seen = g.H.Host.seen in
    let whole = repairs_synced g.H.Host.tells_disks (seen c.args.host) (seen c.sync_all.new.host) (seen c.repair_synced.result.host) c.repair_synced.result.status (λ told. g.met.H.Host.one_each told c.args.host)
    c.sync_all.ensures.settles c.repair_synced.ensures.repairs in
    whole.ends.answers

pub returns-in-Ok-clause-no_usage : goal.returns-in-Ok-clause-no_usage
returns-in-Ok-clause-no_usage g c =
    let seen = g.H.Host.seen in
    let whole = repairs_synced g.H.Host.tells_disks (seen c.args.host) (seen c.sync_all.new.host) (seen c.repair_synced.result.host) c.repair_synced.result.status (λ told. g.met.H.Host.one_each told c.args.host)
    c.sync_all.ensures.settles c.repair_synced.ensures.repairs in
    whole.ends.no_usage

pub returns-in-Ok-clause-causes : goal.returns-in-Ok-clause-causes
returns-in-Ok-clause-causes g c =
    let seen = g.H.Host.seen in
    let whole = repairs_synced g.H.Host.tells_disks (seen c.args.host) (seen c.sync_all.new.host) (seen c.repair_synced.result.host) c.repair_synced.result.status (λ told. g.met.H.Host.one_each told c.args.host)
    c.sync_all.ensures.settles c.repair_synced.ensures.repairs in
    whole.ends.causes

pub returns-in-Ok-clause-complete : goal.returns-in-Ok-clause-complete
returns-in-Ok-clause-complete g c =
    let seen = g.H.Host.seen in
    let whole = repairs_synced g.H.Host.tells_disks (seen c.args.host) (seen c.sync_all.new.host) (seen c.repair_synced.result.host) c.repair_synced.result.status (λ told. g.met.H.Host.one_each told c.args.host)
    c.sync_all.ensures.settles c.repair_synced.ensures.repairs in
    repairs_complete g.H.Host.tells_disks (seen c.args.host) (seen c.repair_synced.result.host) c.repair_synced.result.status whole

pub returns-in-Ok-clause-silent : goal.returns-in-Ok-clause-silent
returns-in-Ok-clause-silent g c =
    let seen = g.H.Host.seen in
    let whole = repairs_synced g.H.Host.tells_disks (seen c.args.host) (seen c.sync_all.new.host) (seen c.repair_synced.result.host) c.repair_synced.result.status (λ told. g.met.H.Host.one_each told c.args.host)
    c.sync_all.ensures.settles c.repair_synced.ensures.repairs in
    whole.silent

pub returns-in-Ok-clause-input : goal.returns-in-Ok-clause-input
returns-in-Ok-clause-input g c =
    let seen = g.H.Host.seen in
    let whole = repairs_synced g.H.Host.tells_disks (seen c.args.host) (seen c.sync_all.new.host) (seen c.repair_synced.result.host) c.repair_synced.result.status (λ told. g.met.H.Host.one_each told c.args.host)
    c.sync_all.ensures.settles c.repair_synced.ensures.repairs in
    whole.input

pub returns-in-Ok-clause-disks : goal.returns-in-Ok-clause-disks
returns-in-Ok-clause-disks g c =
    let seen = g.H.Host.seen in
    let whole = repairs_synced g.H.Host.tells_disks (seen c.args.host) (seen c.sync_all.new.host) (seen c.repair_synced.result.host) c.repair_synced.result.status (λ told. g.met.H.Host.one_each told c.args.host)
    c.sync_all.ensures.settles c.repair_synced.ensures.repairs in
    whole.disks

pub returns-in-Ok-clause-stops : goal.returns-in-Ok-clause-stops
returns-in-Ok-clause-stops g c =
    let seen = g.H.Host.seen in
    let whole = repairs_synced g.H.Host.tells_disks (seen c.args.host) (seen c.sync_all.new.host) (seen c.repair_synced.result.host) c.repair_synced.result.status (λ told. g.met.H.Host.one_each told c.args.host)
    c.sync_all.ensures.settles c.repair_synced.ensures.repairs in
    whole.stops

pub returns-in-Ok-clause-since_syncs : goal.returns-in-Ok-clause-since_syncs
returns-in-Ok-clause-since_syncs g c =
    let seen = g.H.Host.seen in
    let whole = repairs_synced g.H.Host.tells_disks (seen c.args.host) (seen c.sync_all.new.host) (seen c.repair_synced.result.host) c.repair_synced.result.status (λ told. g.met.H.Host.one_each told c.args.host)
    c.sync_all.ensures.settles c.repair_synced.ensures.repairs in
    whole.since

pub returns-in-Ok-clause-one : goal.returns-in-Ok-clause-one
returns-in-Ok-clause-one g c = one_repair (g.H.Host.seen c.args.host).content

pub returns-in-Ok-clause-damaged : goal.returns-in-Ok-clause-damaged
returns-in-Ok-clause-damaged g c told =
    subst (λ (l : List (List ℕ)). IfSome c.repair_synced.result.damages (λ damages. (views : List (List ℕ)) × AreDamaged l damages.items views)) c.sync_all.ensures.settles.content (c.repair_synced.ensures.damaged told)

pub returns-in-Err-clause-answers : goal.returns-in-Err-clause-answers
returns-in-Err-clause-answers g c =
    let seen = g.H.Host.seen in
    let whole = repairs_unsynced g.H.Host.tells_disks (seen c.args.host) (seen c.sync_all.new.host) (λ told. g.met.H.Host.one_each told c.args.host) c.sync_all.ensures.settles (c.sync_all.ensures.cause (subst IsErr (sym c.in-Err.is) refl)) in
    whole.ends.answers

pub returns-in-Err-clause-no_usage : goal.returns-in-Err-clause-no_usage
returns-in-Err-clause-no_usage g c =
    let seen = g.H.Host.seen in
    let whole = repairs_unsynced g.H.Host.tells_disks (seen c.args.host) (seen c.sync_all.new.host) (λ told. g.met.H.Host.one_each told c.args.host) c.sync_all.ensures.settles (c.sync_all.ensures.cause (subst IsErr (sym c.in-Err.is) refl)) in
    whole.ends.no_usage

pub returns-in-Err-clause-causes : goal.returns-in-Err-clause-causes
returns-in-Err-clause-causes g c =
    let seen = g.H.Host.seen in
    let whole = repairs_unsynced g.H.Host.tells_disks (seen c.args.host) (seen c.sync_all.new.host) (λ told. g.met.H.Host.one_each told c.args.host) c.sync_all.ensures.settles (c.sync_all.ensures.cause (subst IsErr (sym c.in-Err.is) refl)) in
    whole.ends.causes

pub returns-in-Err-clause-complete : goal.returns-in-Err-clause-complete
returns-in-Err-clause-complete g c =
    let seen = g.H.Host.seen in
    let whole = repairs_unsynced g.H.Host.tells_disks (seen c.args.host) (seen c.sync_all.new.host) (λ told. g.met.H.Host.one_each told c.args.host) c.sync_all.ensures.settles (c.sync_all.ensures.cause (subst IsErr (sym c.in-Err.is) refl)) in
    repairs_complete g.H.Host.tells_disks (seen c.args.host) (seen c.sync_all.new.host) DiskFault whole

pub returns-in-Err-clause-silent : goal.returns-in-Err-clause-silent
returns-in-Err-clause-silent g c =
    let seen = g.H.Host.seen in
    let whole = repairs_unsynced g.H.Host.tells_disks (seen c.args.host) (seen c.sync_all.new.host) (λ told. g.met.H.Host.one_each told c.args.host) c.sync_all.ensures.settles (c.sync_all.ensures.cause (subst IsErr (sym c.in-Err.is) refl)) in
    whole.silent

pub returns-in-Err-clause-input : goal.returns-in-Err-clause-input
returns-in-Err-clause-input g c =
    let seen = g.H.Host.seen in
    let whole = repairs_unsynced g.H.Host.tells_disks (seen c.args.host) (seen c.sync_all.new.host) (λ told. g.met.H.Host.one_each told c.args.host) c.sync_all.ensures.settles (c.sync_all.ensures.cause (subst IsErr (sym c.in-Err.is) refl)) in
    whole.input

pub returns-in-Err-clause-disks : goal.returns-in-Err-clause-disks
returns-in-Err-clause-disks g c =
    let seen = g.H.Host.seen in
    let whole = repairs_unsynced g.H.Host.tells_disks (seen c.args.host) (seen c.sync_all.new.host) (λ told. g.met.H.Host.one_each told c.args.host) c.sync_all.ensures.settles (c.sync_all.ensures.cause (subst IsErr (sym c.in-Err.is) refl)) in
    whole.disks

pub returns-in-Err-clause-stops : goal.returns-in-Err-clause-stops
returns-in-Err-clause-stops g c =
    let seen = g.H.Host.seen in
    let whole = repairs_unsynced g.H.Host.tells_disks (seen c.args.host) (seen c.sync_all.new.host) (λ told. g.met.H.Host.one_each told c.args.host) c.sync_all.ensures.settles (c.sync_all.ensures.cause (subst IsErr (sym c.in-Err.is) refl)) in
    whole.stops

pub returns-in-Err-clause-since_syncs : goal.returns-in-Err-clause-since_syncs
returns-in-Err-clause-since_syncs g c =
    let seen = g.H.Host.seen in
    let whole = repairs_unsynced g.H.Host.tells_disks (seen c.args.host) (seen c.sync_all.new.host) (λ told. g.met.H.Host.one_each told c.args.host) c.sync_all.ensures.settles (c.sync_all.ensures.cause (subst IsErr (sym c.in-Err.is) refl)) in
    whole.since

pub returns-in-Err-clause-one : goal.returns-in-Err-clause-one
returns-in-Err-clause-one g c = one_repair (g.H.Host.seen c.args.host).content
