use Rattle.std.proofs.Common.{◌≡◌, map, slice_index, All}
use Rattle.std.specs.List.{range_with_len}
use Rattle.ldm_label.specs.Written.{IsWritable}
use Rattle.ldm_init.specs.NewGroup.{new_label}
use Rattle.ldm_init.proofs.labels.new_labels.Given as goal

abbrev pub invariant-loop-disk : goal.invariant-loop-disk
invariant-loop-disk g l = record {
  are : l.labels.items ≡ map (λ disk. new_label (slice_index (g.H.Host.seen l.host).sizes disk) (slice_index l.guids disk)) (range_with_len 0 l.disk);
  writable : All (λ label. IsWritable label) l.labels.items;
}
