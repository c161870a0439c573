use Rattle.std.proofs.Common.{rules, length, ◌+◌, ◌++◌, List, ℕ, arith, refl, ap, sym, ◌∙◌}
use Rattle.std.proofs.lemmas.List.{append-nil}
use Rattle.ldm_host.proofs.Relations.{still_itself, still_trans}
use Rattle.ldm_dump.specs.Bytes.{bytes_of_sectors}
use Rattle.ldm_dump.proofs.ByteLaws.{no_text, text_append, said_on, part_said}
use Rattle.ldm_dump.proofs.dumping.dump_sectors.Goals as goal

pub pieces-init : goal.pieces-init
pieces-init g c =
    let host = g.H.Host.seen c.args.host.now in
    record {
      still = still_itself host (g.met.H.Host.counts_now c.args.host.now) (g.met.H.Host.only_now c.args.host.now);
      input = record { input = refl; heard = refl };
      sectors = λ tells. omega arith;
      within = omega arith;
      said = λ tells. sym (append-nil host.said) ∙ ap (λ (t : List ℕ). host.said ++ t) (sym (no_text host.content c.args.found.now c.args.plan.now c.args.first));
    }

pub returns-in_err-done-clause-front : goal.returns-in_err-done-clause-front
returns-in_err-done-clause-front g c tells =
    let old = g.H.Host.seen c.args.host.now in
    let mid = g.H.Host.seen c.pieces.host in
    let part = c.in_err-done.ensures.front tells in
    part_said (λ i n. bytes_of_sectors i c.args.found.now c.args.plan.now c.args.first n) (λ i x n. bytes_of_sectors i c.args.found.now c.args.plan.now (c.args.first + x) n) (λ i x n. text_append i c.args.found.now c.args.plan.now c.args.first x n) old.content mid.content old.said mid.said _ c.pieces.done part.0 _
    c.pieces.invariant.still.content (c.pieces.invariant.said tells) (let le = part.1 in omega (arith, le)) part.2

pub returns-in_err-done-clause-still : goal.returns-in_err-done-clause-still
returns-in_err-done-clause-still g c = still_trans _ _ _ c.pieces.invariant.still c.in_err-done.ensures.still

pub pieces-preserved : goal.pieces-preserved
pieces-preserved g c =
    let old = g.H.Host.seen c.args.host.now in
    let mid = g.H.Host.seen c.pieces.host in
    let next = c.in_ok-done.ensures in
    record {
      still = still_trans _ _ _ c.pieces.invariant.still next.still;
      input = record { input = next.input.input ∙ c.pieces.invariant.input.input; heard = next.input.heard ∙ c.pieces.invariant.input.heard };
      sectors = λ tells. let so = c.pieces.invariant.sectors tells in let more = next.sectors tells in omega (arith, so, more);
      within = omega (arith, next.fits);
      said = λ tells. said_on (λ i n. bytes_of_sectors i c.args.found.now c.args.plan.now c.args.first n) (λ i x n. bytes_of_sectors i c.args.found.now c.args.plan.now (c.args.first + x) n) (λ i x n. text_append i c.args.found.now c.args.plan.now c.args.first x n) old.content mid.content old.said mid.said _
          c.pieces.done c.in_ok-done.field-0 c.pieces.invariant.still.content (c.pieces.invariant.said tells) (next.said tells);
    }

pub returns-in_err-done-clause-sectors : goal.returns-in_err-done-clause-sectors
returns-in_err-done-clause-sectors g c tells disk =
    (c.pieces.done, let so = c.pieces.invariant.sectors tells in let same = ap length (c.in_err-done.ensures.silent (search rules)) in omega (arith, so, same))
