use Rattle.std.proofs.Common.{◌≡◌, ℕ, List, ◌*◌, ◌≤◌, subst, arith, is_some, length, take, Bool, false, refl}
use Rattle.std.proofs.lemmas.List.{length-take-le}
use Rattle.ldm_host.proofs.Relations.{looks_then}
use Rattle.ldm_rescue.specs.Rescued.{sources_in_order, source_spots, AreRescued}
use Rattle.ldm_host.specs.Failed.{failed_since}
use Rattle.ldm_rescue.proofs.SourceLaws.{source_has, turn_of}
use Rattle.ldm_rescue.proofs.RescueLaws.{first_part, run_whole, rescued_run, are_rescued_covered, causes_covered, covers_sooner}
use Rattle.ldm_rescue.proofs.reading.rescue_run.Goals as goal

pub read_source-requires-clause-has : goal.read_source-requires-clause-has
read_source-requires-clause-has g c s part =
    let found = c.args.found.now in
    let l = c.args.plan.now in
    let spots = source_spots found l c.args.sector c.args.source in
    let turn = turn_of found l c.args.sector spots (first_part (sources_in_order found l c.args.sector) spots c.requires.first) in
    let size = c.requires.together.1 in
    source_has found l (g.H.Host.seen c.args.host.now).sizes c.requires.lies c.args.sector c.requires.together.0 turn.0 (length c.args.out.now) spots s
    c.requires.together.2 (omega (arith, size)) turn.1 part

pub slice_bounds-rescue_singly-end-in-Err : goal.slice_bounds-rescue_singly-end-in-Err
slice_bounds-rescue_singly-end-in-Err g c =
    let room : 512 ≤ length c.read_source.new.scratch = omega (arith, c.requires.same, c.requires.room, c.read_source.auto.scratch) in
    omega (arith, room, length-take-le 512 c.read_source.new.scratch room)

pub rescue_singly-requires-clause-small : goal.rescue_singly-requires-clause-small
rescue_singly-requires-clause-small g c =
    let room : 512 ≤ length c.read_source.new.scratch = omega (arith, c.requires.same, c.requires.room, c.read_source.auto.scratch) in
    length-take-le 512 c.read_source.new.scratch room

pub returns-in-Ok-clause-bytes : goal.returns-in-Ok-clause-bytes
returns-in-Ok-clause-bytes g c tells =
    let old = g.H.Host.seen c.args.host.now in
    let new = g.H.Host.seen c.read_source.new.host in
    let found = c.args.found.now in
    let l = c.args.plan.now in
    let n = c.requires.together.0 in
    let size = c.requires.together.1 in
    let long : length c.read_source.new.out ≡ length c.args.out.now = omega (arith, c.read_source.auto.out) in
    run_whole old.content (failed_since old new) found l c.args.sector n (length c.read_source.new.out) (λ y. false) c.read_source.new.out (omega (arith, size, long)) refl
    (rescued_run old.content (failed_since old new) found l c.args.sector n (source_spots found l c.args.sector c.args.source) c.read_source.new.out c.requires.together.2 c.requires.first (omega (arith, size, long))
    (λ j lt. c.in-Ok.ensures.bytes tells j (omega (arith, lt, long))))

pub returns-in-Err-clause-bytes : goal.returns-in-Err-clause-bytes
returns-in-Err-clause-bytes g c tells =
    let old = g.H.Host.seen c.args.host.now in
    let mid = g.H.Host.seen c.read_source.new.host in
    let new = g.H.Host.seen c.rescue_singly.new.host in
    let lost : ℕ → Bool = λ y. is_some c.rescue_singly.result.lost in
    are_rescued_covered old.content (failed_since mid new) (failed_since old new) c.args.found.now c.args.plan.now c.args.sector c.rescue_singly.result.count lost (take (512 * c.rescue_singly.result.count) c.rescue_singly.new.out)
    (covers_sooner old.failed mid.failed new.failed c.in-Err.ensures.looks.still.later.failed c.rescue_singly.ensures.looks.still.later.failed)
    (subst (λ (images : List (List ℕ)). AreRescued images (failed_since mid new) c.args.found.now c.args.plan.now c.args.sector c.rescue_singly.result.count lost (take (512 * c.rescue_singly.result.count) c.rescue_singly.new.out))
    c.in-Err.ensures.looks.still.content (c.rescue_singly.ensures.bytes tells))

pub returns-in-Err-clause-cause : goal.returns-in-Err-clause-cause
returns-in-Err-clause-cause g c tells =
    let old = g.H.Host.seen c.args.host.now in
    let mid = g.H.Host.seen c.read_source.new.host in
    let new = g.H.Host.seen c.rescue_singly.new.host in
    causes_covered c.args.found.now c.args.plan.now (failed_since mid new) (failed_since old new) c.args.sector c.rescue_singly.result.count c.rescue_singly.result.lost
    (covers_sooner old.failed mid.failed new.failed c.in-Err.ensures.looks.still.later.failed c.rescue_singly.ensures.looks.still.later.failed) (c.rescue_singly.ensures.cause tells)

pub returns-in-Err-clause-looks : goal.returns-in-Err-clause-looks
returns-in-Err-clause-looks g c = looks_then c.in-Err.ensures.looks c.rescue_singly.ensures.looks (λ is. is)
