use Rattle.std.proofs.Common.{◌≡◌, ℕ, ◌+◌, ◌-◌, ◌<◌, length, slice_index}
use Rattle.std.specs.List.{list_any, range_with_len}
use Rattle.std.specs.Option.{option_to_list}
use Rattle.ldm_host.specs.Moves.{Looks}
use Rattle.ldm_dump.specs.Sources.{copy_spot}
use Rattle.ldm_dump.specs.Bytes.{joined_byte}
use Rattle.ldm_scrub.specs.Compare.{copy_differs, mark}
use Rattle.ldm_scrub.proofs.comparing.mark_copies.Given as goal

abbrev pub invariant-copies : goal.invariant-copies
invariant-copies g l = record {
  looks : Looks (g.H.Host.seen l.fn.host) (g.H.Host.seen l.host) ⊥;
  first : g.H.Host.tells_disks → (j : ℕ) → j < length l.out → slice_index l.out j ≡ joined_byte (g.H.Host.seen l.fn.host).content (option_to_list (copy_spot l.found l.plan l.sector 0)) j;
  so_far : g.H.Host.tells_disks → (i : ℕ) → i < length l.marks
      → slice_index l.marks i ≡ mark (list_any (copy_differs (g.H.Host.seen l.fn.host).content l.found l.plan (l.sector + i)) (range_with_len 1 (l.copy - 1)));
}
