use Rattle.std.proofs.Common.{◌≡◌, ◌+◌, ◌-◌, ◌*◌, ◌/◌, ℕ, length, ap, sym, subst, ◌∙◌}
use Rattle.ldm_dump.proofs.RunLaws.{chunk_is}
use Rattle.ldm_places.specs.Columns.{columns_of}
use Rattle.ldm_scrub.specs.Compare.{IsCount}
use Rattle.ldm_scrub.proofs.CompareLaws.{rows_in, count_rows, untiled}
use Rattle.ldm_scrub.proofs.places.count_rows.Goals as goal

pub returns : goal.returns
returns c =
    let l = c.args.plan.now in
    let tiled = untiled l c.requires in
    let chunk : c.from-chunk.result ≡ l.chunk = c.from-chunk.ensures ∙ (c.chunk.ensures.is ∙ chunk_is l tiled) in
    let size : c.from-size.result ≡ l.size = c.from-size.ensures ∙ c.size.ensures in
    let same : c.from-size.result / (c.from-chunk.result * (c.columns.result - 1)) * c.from-chunk.result + c.min.result ≡ rows_in (length (columns_of l)) l.chunk l.size =
    ap (λ (m : ℕ). c.from-size.result / (c.from-chunk.result * (c.columns.result - 1)) * c.from-chunk.result + m) c.min.ensures
    ∙ (ap (λ (k : ℕ). rows_in k c.from-chunk.result c.from-size.result) c.columns.ensures.count
    ∙ (ap (λ (u : ℕ). rows_in (length (columns_of l)) u c.from-size.result) chunk ∙ ap (λ (n : ℕ). rows_in (length (columns_of l)) l.chunk n) size)) in
    subst (λ (n : ℕ). IsCount l n) (sym same) (count_rows l c.requires (c.columns.ensures.columned tiled))
