-- How changes of one disk follow one another.
use Rattle.std.proofs.Common.{◌≡◌, inl, inr, ⊎_elim, ℕ, ◌+◌, ◌<◌, ◌≤◌, List, length, slice_index, sym, ◌∙◌, ap, subst, arith}
use Rattle.ldm_host.specs.Seen.{Seen, Leaves, image}
use Rattle.ldm_host.specs.Moves.{DiskFailed, Torn, TornAt, Works, Writes, Changes, Syncs}
use Rattle.ldm_host.proofs.Relations.{later_trans, quiet_trans, moments_trans, iff_trans, torn_trans, torn_at_trans, torn_from}

pub torn_wider : (at m begin n : ℕ) (old new : List ℕ) → begin ≤ at → at + m ≤ begin + n → Torn at m old new → Torn begin n old new
torn_wider at m begin n old new low high torn = record {
  size = torn.size;
  outside = λ k out. torn.outside k (⊎_elim (λ lt. inl (omega (arith, lt, low))) (λ ge. inr (omega (arith, ge, high))) out);
}

-- the range of one disk
pub torn_at_wider : (disk at m begin n : ℕ) (old new : List (List ℕ)) → begin ≤ at → at + m ≤ begin + n → TornAt disk at m old new → TornAt disk begin n old new
torn_at_wider disk at m begin n old new low high torn = record {
  count = torn.count;
  here = torn_wider at m begin n (image old disk) (image new disk) low high torn.here;
  others = torn.others;
}

-- a write within the range
pub writes_change : (disk at m begin n : ℕ) (a b : Seen) → begin ≤ at → at + m ≤ begin + n → Writes disk at m a b → Changes disk begin n a b
writes_change disk at m begin n a b low high writes = record {
  later = writes.later;
  quiet = writes.quiet;
  content = torn_at_wider disk at m begin n a.content b.content low high writes.content;
  wrote_others = writes.wrote_others;
  left = λ c left. let from = writes.left c left in (from.0, from.1, torn_wider at m begin n from.0 c low high from.2);
  left_others = writes.left_others;
  moments = λ images said left. let m' = writes.moments images said left in (m'.0, m'.1, torn_at_wider disk at m begin n m'.0 images low high m'.2, m'.3);
}

-- a change of a disk is work on the disks
pub changes_works : {disk at n : ℕ} {a b : Seen} {P : Type 0} → Changes disk at n a b → (P → DiskFailed a b) → Works a b P
changes_works changes cause = record { later = changes.later; quiet = changes.quiet; cause = cause }

pub changes_trans : (disk at n : ℕ) (a b c : Seen) → disk < length a.sizes → Changes disk at n a b → Changes disk at n b c → Changes disk at n a c
changes_trans disk at n a b c in_range first second = record {
  later = later_trans a b c first.later second.later;
  quiet = quiet_trans a b c first.quiet second.quiet;
  content = torn_at_trans disk at n a.content b.content c.content first.content second.content;
  wrote_others = λ other ne. second.wrote_others other ne ∙ first.wrote_others other ne;
  left = λ x left. let late = second.left x left in let early = first.left late.0 late.1 in (early.0, early.1, torn_trans at n early.0 late.0 x early.2 late.2);
  left_others = λ other x ne. iff_trans (a.may_leave other x) (b.may_leave other x) (c.may_leave other x) (first.left_others other x ne) (second.left_others other x ne);
  moments = moments_trans a b c (λ images said. (before : List (List ℕ)) × Leaves a before × TornAt disk at n before images × (said ≡ a.said)) first.later second.later
      first.moments
      (λ images said left.
      let m = second.moments images said left in
      let from = torn_from disk at n a b in_range first.later.sizes first.left (λ other x ne. (first.left_others other x ne).0) m.0 m.1 in
      (from.0, from.1, torn_at_trans disk at n from.0 m.0 images from.2 m.2, m.3 ∙ first.quiet.said));
}

-- changes within the range
pub changes_wider : (disk at m begin n : ℕ) (a b : Seen) → begin ≤ at → at + m ≤ begin + n → Changes disk at m a b → Changes disk begin n a b
changes_wider disk at m begin n a b low high changes = record {
  later = changes.later;
  quiet = changes.quiet;
  content = torn_at_wider disk at m begin n a.content b.content low high changes.content;
  wrote_others = changes.wrote_others;
  left = λ c left. let from = changes.left c left in (from.0, from.1, torn_wider at m begin n from.0 c low high from.2);
  left_others = changes.left_others;
  moments = λ images said left. let m' = changes.moments images said left in (m'.0, m'.1, torn_at_wider disk at m begin n m'.0 images low high m'.2, m'.3);
}

-- changes of a disk, and then a sync of it
pub changes_syncs : (disk at n : ℕ) (a b c : Seen) → disk < length a.sizes → Changes disk at n a b → Syncs disk b c → Changes disk at n a c
changes_syncs disk at n a b c in_range first second = record {
  later = later_trans a b c first.later second.later;
  quiet = quiet_trans a b c first.quiet second.quiet;
  content = subst (λ (l : List (List ℕ)). TornAt disk at n a.content l) (sym second.content) first.content;
  wrote_others = λ other ne. ap (λ (l : List ℕ). slice_index l other) second.wrote ∙ first.wrote_others other ne;
  left = λ x left. first.left x (second.left x left);
  left_others = λ other x ne. iff_trans (a.may_leave other x) (b.may_leave other x) (c.may_leave other x) (first.left_others other x ne) (second.left_others other x ne);
  moments = moments_trans a b c (λ images said. (before : List (List ℕ)) × Leaves a before × TornAt disk at n before images × (said ≡ a.said)) first.later second.later
      first.moments
      (λ images said left.
      let m = second.moments images said left in
      let from = torn_from disk at n a b in_range first.later.sizes first.left (λ other x ne. (first.left_others other x ne).0) images m.0 in
      (from.0, from.1, from.2, m.1 ∙ first.quiet.said));
}
