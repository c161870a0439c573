use Rattle.std.proofs.Common.{◌≡◌, ◌+◌, ◌*◌, ℕ, List, not, length, slice_index, replicate, arith, ap, sym, ◌∙◌}
use Rattle.std.specs.Str.{bytes_eq}
use Rattle.ldm_host.proofs.Relations.{looks_as}
use Rattle.ldm_places.specs.Columns.{column_in}
use Rattle.ldm_dump.specs.Sources.{spot_at}
use Rattle.ldm_dump.specs.Bytes.{joined_byte, joined_sector}
use Rattle.ldm_dump.specs.Redundant.{row_spots}
use Rattle.ldm_scrub.specs.Compare.{sector_in, mark, place_sector}
use Rattle.ldm_scrub.proofs.CompareLaws.{row_part, marked_once, bad_row, column_bytes}
use Rattle.ldm_scrub.proofs.comparing.mark_rows.Goals as goal

pub join_row-requires-clause-has : goal.join_row-requires-clause-has
join_row-requires-clause-has g c = λ column s is.
    column_bytes (g.H.Host.seen c.args.host.now).sizes c.args.found.now c.args.plan.now c.args.place column (length c.args.marks.now) (length c.args.out.now) s
    c.requires.lies c.requires.raid5 c.row_sector-sector.ensures.columned c.requires.some c.requires.within (omega (arith, c.requires.size))
    (ap (λ (x : ℕ). spot_at c.args.found.now (column_in c.args.plan.now x column)) (sym c.row_sector-sector.ensures.is) ∙ is)

pub returns-clause-marks : goal.returns-clause-marks
returns-clause-marks g c tells i lt =
    let images = (g.H.Host.seen c.args.host.now).content in
    let found = c.args.found.now in
    let l = c.args.plan.now in
    let out = c.join_row.new.out in
    let n = length c.args.marks.now in
    let columned = c.row_sector-sector.ensures.columned in
    let out_size : length out ≡ 512 * n = omega (arith, c.requires.size) in
    let a : sector_in out i ≡ joined_sector images (row_spots found l (place_sector l (c.args.place + i))) = row_part images found l c.args.place i n out c.requires.raid5 columned out_size lt
    (λ j low. c.in_ok-join_row.ensures.bytes tells j (omega (arith, low)) ∙ ap (λ (x : ℕ). joined_byte images (row_spots found l x) j) c.row_sector-sector.ensures.is) in
    marked_once (bytes_eq (sector_in out i) (replicate 512 0)) (slice_index c.clear.new.out i) (slice_index c.mark_unlike.new.marks i)
    (c.clear.ensures i (omega (arith, lt))) (c.mark_unlike.ensures i (omega (arith, lt)))
    ∙ (ap (λ (p : List ℕ). mark (not (bytes_eq p (replicate 512 0)))) a
    ∙ ap mark (bad_row images found l (place_sector l (c.args.place + i)) c.requires.raid5))

pub returns-clause-looks : goal.returns-clause-looks
returns-clause-looks g c = looks_as c.in_ok-join_row.ensures.looks (λ is. absurd (cc is))
