use Rattle.std.proofs.Common.{◌≡◌, ◌<◌, ◌∙◌, ℕ, List, length, refl, ap, arith}
use Rattle.ldm_host.specs.Seen.{image}
use Rattle.ldm_bytes.specs.Places.{put}
use Rattle.ldm_host.proofs.Relations.{rose_sooner}
use Rattle.ldm_body.proofs.RewriteLaws.{on_ok_map}
use Rattle.ldm_init.proofs.MomentLaws.{one_rewrite, two_rewrite, three_rewrite, synced_rewrite, put_here, set_count}
use Rattle.ldm_init.proofs.writing.write_unsigned.Goals as goal

pub returns-in_err-write_at-clause-changes : goal.returns-in_err-write_at-clause-changes
returns-in_err-write_at-clause-changes g c =
    one_rewrite c.args.begin (length c.args.last.now) (length c.args.front.now) 512 c.args.disk c.requires.few (omega arith)
    (g.H.Host.seen c.args.host.now) (g.H.Host.seen c.write_at.new.self) c.requires.disk c.write_at.ensures.writes

pub returns-in_err-write_at-2-clause-changes : goal.returns-in_err-write_at-2-clause-changes
returns-in_err-write_at-2-clause-changes g c =
    two_rewrite c.args.begin (length c.args.last.now) (length c.args.front.now) (length c.args.copy.now) c.args.disk c.requires.few (omega (arith, c.fits-copy))
    (g.H.Host.seen c.args.host.now) (g.H.Host.seen c.write_at.new.self) c.requires.disk c.write_at.ensures.writes
    (g.H.Host.seen c.write_at-2.new.self) c.write_at-2.ensures.writes

pub returns-in_err-write_at-3-clause-changes : goal.returns-in_err-write_at-3-clause-changes
returns-in_err-write_at-3-clause-changes g c =
    three_rewrite c.args.begin (length c.args.last.now) (length c.args.front.now) (length c.args.copy.now) c.args.disk c.requires.few (omega (arith, c.fits-copy))
    (g.H.Host.seen c.args.host.now) (g.H.Host.seen c.write_at.new.self) c.requires.disk c.write_at.ensures.writes
    (g.H.Host.seen c.write_at-2.new.self) c.write_at-2.ensures.writes (g.H.Host.seen c.write_at-3.new.self) c.write_at-3.ensures.writes

pub returns-clause-changes : goal.returns-clause-changes
returns-clause-changes g c =
    synced_rewrite c.args.begin (length c.args.last.now) (length c.args.front.now) (length c.args.copy.now) c.args.disk c.requires.few (omega (arith, c.fits-copy))
    (g.H.Host.seen c.args.host.now) (g.H.Host.seen c.write_at.new.self) c.requires.disk c.write_at.ensures.writes
    (g.H.Host.seen c.write_at-2.new.self) c.write_at-2.ensures.writes (g.H.Host.seen c.write_at-3.new.self) c.write_at-3.ensures.writes
    (g.H.Host.seen c.sync.new.self) c.sync.ensures.syncs

pub returns-clause-written : goal.returns-clause-written
returns-clause-written g c tells =
    let seen = g.H.Host.seen in
    let disk = c.args.disk in
    let a = seen c.args.host.now in
    let b = seen c.write_at.new.self in
    let d = seen c.write_at-2.new.self in
    let x = image a.content disk in
    let one = put x 0 c.args.front.now in
    let two = put one 0xC00 c.args.copy.now in
    let at_a : disk < length a.content = omega (arith, g.met.H.Host.one_each tells c.args.host.now, c.requires.disk) in
    let wrote_b = c.in_ok-write_at.ensures.written tells in
    let wrote_d = c.in_ok-write_at-2.ensures.written tells in
    let at_b : disk < length b.content = (let n = set_count a.content b.content disk (put x 0 c.args.front.now) wrote_b in omega (arith, n, at_a)) in
    let at_d : disk < length d.content = (let n = set_count b.content d.content disk (put (image b.content disk) 0xC00 c.args.copy.now) wrote_d in omega (arith, n, at_b)) in
    let is_b : image b.content disk ≡ one = put_here a.content b.content disk 0 c.args.front.now x at_a wrote_b refl in
    let is_d : image d.content disk ≡ two = put_here b.content d.content disk 0xC00 c.args.copy.now one at_b wrote_d is_b in
    on_ok_map c.sync.result _ _ (λ settled. ap (λ (l : List (List ℕ)). image l disk) c.sync.ensures.syncs.content
    ∙ put_here d.content _ disk c.args.begin c.args.last.now two at_d (c.in_ok-write_at-3.ensures.written tells) is_d)
    c.sync.ensures.settled

pub returns-clause-cause : goal.returns-clause-cause
returns-clause-cause g c is = rose_sooner _ _ _ (omega arith) (c.sync.ensures.cause is)
