use Rattle.std.proofs.Common.{◌≡◌, ℕ, ◌<◌, length, slice_index}
use Rattle.std.specs.List.{range_with_len, filter_map}
use Rattle.ldm_host.specs.Moves.{Looks}
use Rattle.ldm_dump.specs.Sources.{other_spot}
use Rattle.ldm_dump.specs.Bytes.{joined_byte}
use Rattle.ldm_rescue.proofs.reading.rebuild.Given as goal

abbrev pub invariant-columns : goal.invariant-columns
invariant-columns g l = record {
  looks : Looks (g.H.Host.seen l.fn.host) (g.H.Host.seen l.host) ⊥;
  bytes : g.H.Host.tells_disks → (j : ℕ) → j < length l.out
      → slice_index l.out j ≡ joined_byte (g.H.Host.seen l.fn.host).content (filter_map (other_spot l.found l.plan l.sector) (range_with_len 0 l.column)) j;
}
