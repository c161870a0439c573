-- How long the sample script is at most.
use Rattle.std.proofs.Common.{ℕ, zero, suc, ◌+◌, ◌*◌, ◌/◌, ◌%◌, ◌<◌, ◌≤◌, ◌==◌, Bool, true, false, List, length, length-append, decimal, arith, if◌then◌else◌}
use Rattle.std.proofs.lemmas.Fmt.{length-decimal-le}
use Rattle.ldm_vectors.specs.Script.{draw, span_line, mirror_line, extend_line, delete_line, sample_line, lines_of_seed, script_of}

few_digits : (n : ℕ) → n < 1000 → length (decimal n) ≤ 3
few_digits n lt = length-decimal-le 3 n (omega arith) (omega (arith, lt)) (omega (arith, lt))

module _ (line value : ℕ) (some : 0 < line) (few : line ≤ 200) where
  span_short : length (span_line line value) ≤ 100
  span_short =
      let first = few_digits line (omega (arith, few)) in
      let disk = few_digits (1 + value % 3) (omega arith) in
      let size = few_digits (1 + value / 3 % 64) (omega arith) in
      simp length-append (omega (arith, first, disk, size))

  mirror_short : length (mirror_line line value) ≤ 100
  mirror_short =
      let first = few_digits line (omega (arith, few)) in
      let size = few_digits (1 + value % 64) (omega arith) in
      simp length-append (omega (arith, first, size))

  extend_short : length (extend_line line value) ≤ 100
  extend_short =
      let volume = few_digits (1 + value % line) (omega (arith, some, few)) in
      let disk = few_digits (1 + value / 512 % 3) (omega arith) in
      let size = few_digits (1 + value % 64) (omega arith) in
      simp length-append (omega (arith, volume, disk, size))

  delete_short : length (delete_line line value) ≤ 100
  delete_short =
      let volume = few_digits (1 + value % line) (omega (arith, some, few)) in
      simp length-append (omega (arith, volume))

either_short : (test : Bool) (x y : List ℕ) → length x ≤ 100 → length y ≤ 100 → length (if test then x else y) ≤ 100
either_short true x y first second = first
either_short false x y first second = second

line_short : (line kind value : ℕ) → 0 < line → line ≤ 200 → length (sample_line line kind value) ≤ 100
line_short line kind value some few =
    either_short (kind % 4 == 0) _ _ (span_short line value some few)
    (either_short (kind % 4 == 1) _ _ (mirror_short line value some few)
    (either_short (kind % 4 == 2) _ _ (extend_short line value some few) (delete_short line value some few)))

lines_short : (seed lines : ℕ) → lines ≤ 200 → length (lines_of_seed seed lines) ≤ 100 * lines
unfolding lines_of_seed
lines_short seed zero few = omega arith
lines_short seed (suc lines) few =
    let before = lines_short seed lines (omega (arith, few)) in
    let here = line_short (lines + 1) (draw seed (2 * lines + 1)) (draw seed (2 * lines + 2)) (omega arith) (omega (arith, few)) in
    let all = length-append (lines_of_seed seed lines) (sample_line (lines + 1) (draw seed (2 * lines + 1)) (draw seed (2 * lines + 2))) in
    omega (arith, before, here, all)

pub script_short : (seed : ℕ) → length (script_of seed) ≤ 20000
script_short seed = lines_short seed 200 (omega arith)
