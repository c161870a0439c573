-- What a host over files shows of a write.
use Rattle.std.proofs.Common.{◌≡◌, ℕ, ◌+◌, ◌-◌, ◌^◌, ◌<◌, ◌≤◌, min, List, [], length, get_or, set, slice_index, refl, inl, ◌∙◌, ap, arith}
use Rattle.std.proofs.lemmas.List.{get_or-set_same, get_or-set_other}
use Rattle.ldm_host.specs.Moves.{Writes}
use Rattle.ldm_files.specs.FileSeen.{file_seen}

-- bytes were handed to one disk, and its fault may have been counted
pub file_writes : (sizes : List ℕ) (faults more talk : ℕ) (wrote next : List ℕ) (disk at n : ℕ) → disk < length sizes → length wrote ≡ length sizes → faults ≤ more
    → next ≡ set wrote disk (min (slice_index wrote disk + n) (2 ^ 64 - 1)) → Writes disk at n (file_seen sizes faults talk wrote) (file_seen sizes more talk next)
file_writes sizes faults more talk wrote next disk at n lt counted rose is = record {
  later = record {
    sizes = refl;
    disk_faults = rose;
    talk_faults = omega arith;
    failed = ([], refl);
    said = ([], refl);
    clock = omega arith;
    keeps = λ t images said le left. left;
    adds = λ t images said le left. left;
    nothing_else = λ t images said le left. inl left;
  };
  quiet = record { said = refl; heard = refl; input = refl };
  content = record { count = refl; here = record { size = refl; outside = λ k out. refl }; others = λ other ne. refl };
  wrote = omega (arith, ap (λ (l : List ℕ). slice_index l disk) is, here);
  wrote_others = λ other ne. ap (λ (l : List ℕ). get_or l other 0) is ∙ get_or-set_other wrote disk other value 0 ne;
  left = λ c left. absurd left;
  left_others = λ other c ne. (λ left. left, λ left. left);
  moments = λ images said left. absurd (left.1 disk lt);
}
  where
    value : ℕ
    value = min (slice_index wrote disk + n) (2 ^ 64 - 1)

    here : slice_index (set wrote disk value) disk ≡ value
    here = get_or-set_same wrote disk value 0 (omega arith)
