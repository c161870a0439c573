use Rattle.std.proofs.Common.{◌≡◌, ◌-◌, ◌*◌, ◌<◌, min, refl, sym, ◌∙◌, arith}
use Rattle.ldm_host.specs.Seen.{image}
use Rattle.ldm_host.proofs.Relations.{looks_then}
use Rattle.ldm_copy.proofs.AreaLaws.{next_same, same_part}
use Rattle.ldm_copy.proofs.alike.is_same.Goals as goal

pub loop-chunk-preserved : goal.loop-chunk-preserved
loop-chunk-preserved g c =
    let start = g.H.Host.seen c.args.host.now in
    let i = c.loop-chunk.chunk in
    let lt : 8 * i < c.args.sectors = omega arith in
    let few : c.min-few.result ≡ min 8 (c.args.sectors - 8 * i) = omega arith in
    record {
      looks = looks_then c.loop-chunk.invariant.looks c.in_ok-are_few_same.ensures.looks (λ is. absurd is);
      same = λ tells. next_same (image start.content c.args.disk) (image start.content c.args.other) c.args.from c.args.other_from c.args.sectors i c.min-few.result lt few (c.loop-chunk.invariant.same tells)
          (rw c.loop-chunk.invariant.looks.still.content at ((c.in_ok-are_few_same.ensures.is tells).0 c.if-not-branch.false));
    }

pub returns-then-not-branch-clause-is : goal.returns-then-not-branch-clause-is
returns-then-not-branch-clause-is g c tells =
    let start = g.H.Host.seen c.args.host.now in
    let i = c.loop-chunk.chunk in
    let is = rw c.loop-chunk.invariant.looks.still.content at (c.in_ok-are_few_same.ensures.is tells) in (
      λ no. absurd (cc),
      λ same. sym c.if-not-branch.true ∙ is.1 (same_part (image start.content c.args.disk) (image start.content c.args.other) c.args.from c.args.other_from (8 * i) c.min-few.result c.args.sectors (omega arith) same),
    )

pub returns-clause-is : goal.returns-clause-is
returns-clause-is g c tells =
    let all : min (8 * c.loop-chunk.chunk) c.args.sectors ≡ c.args.sectors = omega arith in
    (λ yes. rw all at (c.loop-chunk.invariant.same tells), λ same. refl)

pub returns-in_err-are_few_same-clause-looks : goal.returns-in_err-are_few_same-clause-looks
returns-in_err-are_few_same-clause-looks g c =
    looks_then c.loop-chunk.invariant.looks c.in_err-are_few_same.ensures.looks (λ failed. refl)

pub returns-then-not-branch-clause-looks : goal.returns-then-not-branch-clause-looks
returns-then-not-branch-clause-looks g c =
    looks_then c.loop-chunk.invariant.looks c.are_few_same.ensures.looks (λ is. absurd (cc is))
