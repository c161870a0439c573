use Rattle.std.proofs.Common.{◌≡◌, ◌-◌, ◌≤◌, ◌<◌, ◌+◌, ◌^◌, ◌∙◌, Some, get_or, subst, sym, ap, rules, arith, leb}
use Rattle.std.proofs.lemmas.List.Sorted.{IsPartitionPoint-from_clause, IsPartitionedBy-leb}
use Rattle.ldm_places.proofs.SpotLaws.{none, tile_of_points, tiles_zero, tiles_rise}
use Rattle.ldm_places.proofs.tiles.tile_at.Goals as goal

pub overflow_sub-result : goal.overflow_sub-result
overflow_sub-result c =
    let es = c.args.extents.now in
    let rises = IsPartitionedBy-leb (λ e. e.offset) es c.args.sector
    (tiles_rise (λ e. e.offset) 0 es (λ e f le. omega arith) (tiles_zero es c.requires.tiled)) in
    let points = IsPartitionPoint-from_clause (λ e. leb e.offset c.args.sector) es c.partition_point-next.result c.partition_point-next.ensures.partitioned rises (λ a r q k. search rules) in
    let hit = tile_of_points es c.args.sector c.partition_point-next.result none c.requires.tiled c.requires.within c.partition_point-next.ensures.bound points in
    omega (arith, hit.next)

pub returns : goal.returns
returns c =
    let es = c.args.extents.now in
    let rises = IsPartitionedBy-leb (λ e. e.offset) es c.args.sector
    (tiles_rise (λ e. e.offset) 0 es (λ e f le. omega arith) (tiles_zero es c.requires.tiled)) in
    let points = IsPartitionPoint-from_clause (λ e. leb e.offset c.args.sector) es c.partition_point-next.result c.partition_point-next.ensures.partitioned rises (λ a r q k. search rules) in
    let hit = tile_of_points es c.args.sector c.partition_point-next.result none c.requires.tiled c.requires.within c.partition_point-next.ensures.bound points in
    let at : c.partition_point-next.result - 1 ≡ hit.place = omega (arith, hit.next) in
    let same = sym (ap (λ k. get_or es k none) at) in
    record {
      found = hit.found ∙ ap (λ e. Some e) same;
      low = subst (λ e. e.offset ≤ c.args.sector) same hit.low;
      high = subst (λ e. c.args.sector < e.offset + e.size) same hit.high;
      ends = subst (λ e. e.start + e.size < 2 ^ 64) same (c.requires.ends hit.place none hit.there);
    }
