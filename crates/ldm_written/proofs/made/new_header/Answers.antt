use Rattle.std.proofs.Common.{ℕ, List, subst, sym, arith}
use Rattle.ldm_vmdb.specs.Sectors.{IsKeptHeader}
use Rattle.ldm_written.proofs.MadeLaws.{new_kept}
use Rattle.ldm_written.proofs.made.new_header.Goals as goal

pub invariant_of-result : goal.invariant_of-result
invariant_of-result c =
    let name = c.args.name.now in
    let guid = c.args.guid in
    let is = c.new_raw-raw.ensures in
    let kept = new_kept name guid c.requires.short c.requires.without_zero c.ranges.guid.fits (λ k. omega (arith, c.type_inv.name k)) in
    record {
      kept = subst (λ (n : List ℕ). IsKeptHeader n guid c.new_raw-raw.result) (sym (c.in_ok-name.ensures {u = tt})) (subst (IsKeptHeader name guid) (sym is) kept);
    }
