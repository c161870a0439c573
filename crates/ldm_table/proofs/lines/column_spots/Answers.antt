use Rattle.std.proofs.Common.{◌≡◌, ℕ, length, map, arith, subst}
use Rattle.std.specs.List.{range_with_len}
use Rattle.ldm_places.specs.Columns.{columns_of}
use Rattle.ldm_table.specs.Tables.{column_begin}
use Rattle.ldm_table.proofs.LineLaws.{more_made}
use Rattle.ldm_table.proofs.lines.column_spots.Goals as goal

pub columns-preserved : goal.columns-preserved
columns-preserved g c = grind (arith, more_made)

pub returns : goal.returns
returns g c =
    let count = c.columns-column-end.ensures.count in
    let all : c.columns.column ≡ length (columns_of c.args.plan.now) = omega (arith, count) in
    subst (λ (n : ℕ). c.columns.spots.items ≡ map (column_begin c.args.found.now c.args.plan.now) (range_with_len 0 n)) all c.columns.invariant
