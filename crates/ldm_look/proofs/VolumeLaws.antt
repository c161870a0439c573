-- What was put together by parent says what the records do.
use Rattle.std.proofs.Common.{◌≡◌, ◌∙◌, ℕ, List, Option, ap}
use Rattle.ldm_records.specs.declared.types.Record.{Record}
use Rattle.ldm_layout.specs.Parts.{plexes_at, plexes_of}
use Rattle.ldm_layout.specs.Grouped.{Lists, IsListsOf}
use Rattle.ldm_layout.specs.Volumes.{shape_of}
use Rattle.ldm_places.specs.declared.shape.Shape.{Shape}
use Rattle.ldm_look.specs.Volumes.{text_of_partitions, text_of_components, text_of_volumes, text_of_all_volumes}

same_shapes : (lists : Lists) (records : List Record) → IsListsOf lists records
    → ◌≡◌ {A = ℕ → Option Shape} (λ volume. shape_of (plexes_at volume lists.plexes)) (λ volume. shape_of (plexes_of volume records))
same_shapes lists records h = λ i. λ volume. shape_of (h.plexes_are volume i)

pub same_volumes : (lists : Lists) (partitions components : ℕ → List ℕ) (records : List Record) → IsListsOf lists records
    → ((id : ℕ) → partitions id ≡ text_of_partitions records id) → ((id : ℕ) → components id ≡ text_of_components partitions records id)
    → text_of_volumes (λ volume. shape_of (plexes_at volume lists.plexes)) components records ≡ text_of_all_volumes records
unfolding text_of_all_volumes
same_volumes lists partitions components records h ps cs =
    let lines : partitions ≡ text_of_partitions records = λ i id. ps id i in
    let texts : components ≡ text_of_components partitions records = λ i id. cs id i in
    let whole : components ≡ text_of_components (text_of_partitions records) records = texts ∙ ap (λ (f : ℕ → List ℕ). text_of_components f records) lines in
    ap (λ (f : ℕ → Option Shape). text_of_volumes f components records) (same_shapes lists records h)
    ∙ ap (λ (f : ℕ → List ℕ). text_of_volumes (λ volume. shape_of (plexes_of volume records)) f records) whole
