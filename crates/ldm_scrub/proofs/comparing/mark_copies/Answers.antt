use Rattle.std.proofs.Common.{◌≡◌, ◌+◌, ◌-◌, ◌*◌, ◌<◌, ℕ, List, not, length, slice_index, arith, ap, sym, subst, refl, ◌∙◌}
use Rattle.std.specs.List.{list_any, range_with_len}
use Rattle.std.specs.Option.{option_to_list}
use Rattle.std.specs.Str.{bytes_eq}
use Rattle.ldm_host.proofs.Relations.{looks_then, looks_as}
use Rattle.ldm_places.specs.Layouts.{copies_of}
use Rattle.ldm_dump.specs.Sources.{copy_spot}
use Rattle.ldm_dump.specs.Bytes.{joined_byte}
use Rattle.ldm_dump.specs.Runs.{LiesOn}
use Rattle.ldm_scrub.specs.Compare.{copy_sector, copy_differs, sector_in, mark}
use Rattle.ldm_scrub.proofs.CompareLaws.{copy_part, marked_next, bad_copies}
use Rattle.ldm_scrub.proofs.comparing.mark_copies.Goals as goal

pub copies-preserved : goal.copies-preserved
copies-preserved g c = record {
  looks = looks_then c.copies.invariant.looks c.in_ok-read_copy_run-2.ensures.looks (λ is. absurd is);
  first = c.copies.invariant.first;
  so_far = λ tells i lt.
      let images = (g.H.Host.seen c.args.host.now).content in
      let found = c.args.found.now in
      let l = c.args.plan.now in
      let x = c.args.sector in
      let copy = c.copies.copy in
      let out = c.read_copy_run.new.out in
      let other = c.read_copy_run-in-copies.new.out in
      let n = length c.args.marks.now in
      let low : i < n = omega (arith, lt) in
      let out_size : length out ≡ 512 * n = omega (arith, c.requires.size) in
      let other_size : length other ≡ 512 * n = omega (arith, c.requires.size, c.requires.same) in
      let copied : 0 < copies_of l = omega (arith, c.copies-count.ensures.is, c.copies-count.ensures.some (omega (arith, c.requires.within))) in
      let there : copy < copies_of l = omega (arith, c.copies-count.ensures.is, c.copies-test.true) in
      let a : sector_in out i ≡ copy_sector images found l (x + i) 0 = copy_part images found l x 0 c.args.run i n out c.requires.run copied c.requires.few out_size low (c.copies.invariant.first tells) in
      let b : sector_in other i ≡ copy_sector images found l (x + i) copy = copy_part images found l x copy c.args.run i n other c.requires.run there c.requires.few other_size low
      (λ j less. c.in_ok-read_copy_run-2.ensures.bytes tells j (omega (arith, less))
      ∙ ap (λ (im : List (List ℕ)). joined_byte im (option_to_list (copy_spot found l x copy)) j) c.copies.invariant.looks.still.content) in
      marked_next (copy_differs images found l (x + i)) copy (bytes_eq (sector_in out i) (sector_in other i)) (slice_index c.copies.marks i) (slice_index c.mark_differing.new.marks i)
      (omega (arith, c.copies.auto.copy))
      (ap (λ (p : List ℕ). not (bytes_eq p (copy_sector images found l (x + i) copy))) (sym a) ∙ ap (λ (q : List ℕ). not (bytes_eq (sector_in out i) q)) (sym b))
      (c.copies.invariant.so_far tells i (omega (arith, low)))
      (c.mark_differing.ensures i (omega (arith, low)));
}

pub read_copy_run-requires-clause-copied : goal.read_copy_run-requires-clause-copied
read_copy_run-requires-clause-copied g c = omega (arith, c.copies-count.ensures.is, c.copies-count.ensures.some (omega (arith, c.requires.within)))

pub returns-clause-marks : goal.returns-clause-marks
returns-clause-marks g c tells i lt =
    let images = (g.H.Host.seen c.args.host.now).content in
    let found = c.args.found.now in
    let l = c.args.plan.now in
    let some : 0 < copies_of l = omega (arith, c.copies-count.ensures.is, c.copies-count.ensures.some (omega (arith, c.requires.within))) in
    let all : c.copies.copy ≡ copies_of l = omega (arith, some, c.copies-count.ensures.is, c.copies-test.false, c.copies.auto.copy-end, c.copies.auto.copy) in
    c.copies.invariant.so_far tells i (omega (arith, lt))
    ∙ (ap (λ (n : ℕ). mark (list_any (copy_differs images found l (c.args.sector + i)) (range_with_len 1 (n - 1)))) all
    ∙ ap mark (bad_copies images found l (c.args.sector + i) c.requires.other))

pub read_copy_run-requires-in-copies-clause-lies : goal.read_copy_run-requires-in-copies-clause-lies
read_copy_run-requires-in-copies-clause-lies g c = subst (λ (l : List ℕ). LiesOn c.args.found.now c.args.plan.now l) (sym c.copies.invariant.looks.still.later.sizes) c.requires.lies

pub returns-in_err-read_copy_run-2-clause-looks : goal.returns-in_err-read_copy_run-2-clause-looks
returns-in_err-read_copy_run-2-clause-looks g c = looks_then c.copies.invariant.looks c.in_err-read_copy_run-2.ensures.looks (λ failed. refl)

pub returns-clause-looks : goal.returns-clause-looks
returns-clause-looks g c = looks_as c.copies.invariant.looks (λ is. absurd (cc is))
