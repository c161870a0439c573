use Rattle.std.proofs.Common.{rules, ◌≡◌, ◌+◌, ◌-◌, ◌*◌, ◌<◌, ◌≤◌, min, ◌++◌, ◌∙◌, subst, ℕ, List, Err, refl, arith}
use Rattle.ldm_label.proofs.ReadLaws.{handed_on}
use Rattle.ldm_frags.specs.Fed.{IsFed}
use Rattle.ldm_host.specs.Seen.{image}
use Rattle.ldm_host.proofs.Relations.{looks_itself, looks_then, looks_as}
use Rattle.ldm_copy.specs.Alike.{sectors_from}
use Rattle.ldm_copy.specs.Steps.{IsRead, JoinsBlocks}
use Rattle.ldm_copy.proofs.ReadLaws.{none_read, more_read, fault_read}
use Rattle.ldm_copy.proofs.reading.feed_sectors.Goals as goal

pub loop-chunk-init : goal.loop-chunk-init
loop-chunk-init g c =
    let start = g.H.Host.seen c.args.host.now in
    record {
      looks = looks_as (looks_itself start (g.met.H.Host.counts_now c.args.host.now) (g.met.H.Host.only_now c.args.host.now)) (λ is. absurd is);
      limit = refl;
      read = let none : 0 ≡ min (8 * 0) c.args.sectors = omega arith in
          subst (λ (n : ℕ). IsRead g.H.Host.tells_disks (image start.content c.args.disk) c.args.from n (IsFed c.args.joiner.now)) none
          (none_read g.H.Host.tells_disks (image start.content c.args.disk) c.args.from c.args.joiner.now c.requires.fresh);
    }

pub feed_few-requires-clause-room : goal.feed_few-requires-clause-room
feed_few-requires-clause-room g c =
    let i = c.loop-chunk.chunk in
    let lt : 8 * i < c.args.sectors = omega arith in
    let few : c.min-few.result ≡ min 8 (c.args.sectors - 8 * i) = omega arith in
    let read = c.loop-chunk.invariant.read in
    let many = read.passes.many in
    let size = read.size in
    let limit = c.loop-chunk.invariant.limit in
    omega arith

pub loop-chunk-preserved : goal.loop-chunk-preserved
loop-chunk-preserved g c =
    let start = g.H.Host.seen c.args.host.now in
    let disk = image start.content c.args.disk in
    let i = c.loop-chunk.chunk in
    let lt : 8 * i < c.args.sectors = omega arith in
    let few : c.min-few.result ≡ min 8 (c.args.sectors - 8 * i) = omega arith in
    let done : min (8 * i) c.args.sectors ≡ 8 * i = omega arith in
    let more : 8 * i + c.min-few.result ≡ min (8 * (i + 1)) c.args.sectors = omega arith in
    record {
      looks = looks_then c.loop-chunk.invariant.looks c.in_ok-feed_few.ensures.looks (λ is. absurd is);
      limit = c.in_ok-feed_few.ensures.limit ∙ c.loop-chunk.invariant.limit;
      read = subst (λ (n : ℕ). IsRead g.H.Host.tells_disks disk c.args.from n (IsFed c.feed_few.new.joiner)) more
          (more_read g.H.Host.tells_disks disk c.args.from (8 * i) c.min-few.result c.loop-chunk.joiner
          (subst (λ (n : ℕ). IsRead g.H.Host.tells_disks disk c.args.from n (IsFed c.loop-chunk.joiner)) done c.loop-chunk.invariant.read)
          c.feed_few.new.joiner (λ fed is. rw c.loop-chunk.invariant.looks.still.content at (c.in_ok-feed_few.ensures.read fed is)));
    }

pub returns-in_err-feed_few-clause-fault : goal.returns-in_err-feed_few-clause-fault
returns-in_err-feed_few-clause-fault g c tells =
    let disk = image (g.H.Host.seen c.args.host.now).content c.args.disk in
    let i = c.loop-chunk.chunk in
    let lt : 8 * i < c.args.sectors = omega arith in
    let few : c.min-few.result ≡ min 8 (c.args.sectors - 8 * i) = omega arith in
    let done : min (8 * i) c.args.sectors ≡ 8 * i = omega arith in
    let within : 8 * i + c.min-few.result ≤ c.args.sectors = omega arith in
    rw (handed_on c.from_residual.result c.in_err-feed_few.field-0.0 c.from_residual.ensures.1)
    (fault_read g.H.Host.tells_disks disk c.args.from (8 * i) c.min-few.result c.loop-chunk.joiner
    (subst (λ (n : ℕ). IsRead g.H.Host.tells_disks disk c.args.from n (IsFed c.loop-chunk.joiner)) done c.loop-chunk.invariant.read)
    c.args.sectors c.in_err-feed_few.field-0.0 within tells
    (λ fed rest is. subst (λ (content : List (List ℕ)). JoinsBlocks (fed ++ sectors_from (c.args.from + 8 * i) c.min-few.result (image content c.args.disk) ++ rest) (Err c.in_err-feed_few.field-0.0))
    c.loop-chunk.invariant.looks.still.content (c.in_err-feed_few.ensures.fault tells fed rest is)))

pub returns-in_err-feed_few-clause-looks : goal.returns-in_err-feed_few-clause-looks
returns-in_err-feed_few-clause-looks g c = looks_then c.loop-chunk.invariant.looks c.in_err-feed_few.ensures.looks (λ is. search rules)
