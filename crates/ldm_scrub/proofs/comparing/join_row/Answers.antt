use Rattle.std.proofs.Common.{◌<◌, ℕ, List, Option, arith, length, map, fold, bit_xor, slice_index, ap, sym, subst, refl, ◌∙◌}
use Rattle.std.specs.Option.{option_to_list}
use Rattle.ldm_host.proofs.Relations.{looks_then, looks_as}
use Rattle.ldm_places.specs.Columns.{column_in}
use Rattle.ldm_dump.specs.Sources.{spot_at}
use Rattle.ldm_dump.specs.Bytes.{byte_at}
use Rattle.ldm_dump.specs.declared.spots.Spot.{Spot}
use Rattle.ldm_dump.specs.Runs.{HasBytes, RowsLieOn}
use Rattle.ldm_dump.proofs.ReadLaws.{join_step}
use Rattle.ldm_scrub.proofs.comparing.join_row.Goals as goal

pub columns-preserved : goal.columns-preserved
columns-preserved g c = record {
  looks = looks_then c.columns.invariant.looks c.in_ok-join_column.ensures.looks (λ is. absurd is);
  bytes = λ tells j lt.
      let low : j < length c.columns.out = omega (arith, lt) in
      let f : ℕ → Option Spot = λ column. spot_at c.args.found.now (column_in c.args.plan.now c.args.sector column) in
      c.in_ok-join_column.ensures.bytes tells j low
      ∙ (ap (λ (images : List (List ℕ)). fold bit_xor (slice_index c.columns.out j) (map (byte_at images j) (option_to_list (f c.columns.column)))) c.columns.invariant.looks.still.content
      ∙ join_step (g.H.Host.seen c.args.host.now).content f c.columns.column j (slice_index c.columns.out j) (c.columns.invariant.bytes tells j low));
}

pub join_column-requires-clause-lies : goal.join_column-requires-clause-lies
join_column-requires-clause-lies g c = subst (λ (l : List ℕ). RowsLieOn c.args.found.now c.args.plan.now l) (sym c.columns.invariant.looks.still.later.sizes) c.requires.lies

pub returns-in_err-join_column-clause-looks : goal.returns-in_err-join_column-clause-looks
returns-in_err-join_column-clause-looks g c = looks_then c.columns.invariant.looks c.in_err-join_column.ensures.looks (λ failed. refl)

pub returns-clause-looks : goal.returns-clause-looks
returns-clause-looks g c = looks_as c.columns.invariant.looks (λ is. absurd (cc is))

pub join_column-requires-clause-has : goal.join_column-requires-clause-has
join_column-requires-clause-has g c = λ s is. subst (λ (l : List ℕ). HasBytes l s (length c.columns.out)) (sym c.columns.invariant.looks.still.later.sizes)
    (subst (λ (n : ℕ). HasBytes (g.H.Host.seen c.args.host.now).sizes s n) (sym (omega arith)) (c.requires.has c.columns.column s is))
