use Rattle.std.proofs.Common.{◌≤◌, rules, leb, ltb}
use Rattle.std.proofs.lemmas.List.Sorted.{IsPartitionPoint-from_clause, IsPartitionedBy-leb, IsPartitionedBy-ltb}
use Rattle.ldm_layout.proofs.SortLaws.{range_of_points, range_order, range_is}
use Rattle.ldm_places.specs.declared.extent.Extent.{Extent}
use Rattle.ldm_layout.proofs.parts.extents_at.Goals as goal

pub slice_bounds-result-count : goal.slice_bounds-result-count
slice_bounds-result-count c =
    let none : Extent = record { component = 0; disk = 0; start = 0; size = 0; offset = 0; index = 0 } in
    range_order (λ x. x.component) c.args.component c.args.extents.now none _ _ (range_of_points (λ x. x.component) c.args.component c.args.extents.now _ _
    c.partition_point-start.ensures.bound c.partition_point-end.ensures.bound
    (IsPartitionPoint-from_clause (λ x. ltb x.component c.args.component) _ _ c.partition_point-start.ensures.partitioned (IsPartitionedBy-ltb (λ x. x.component) _ c.args.component c.requires) (λ a r q k. search rules))
    (IsPartitionPoint-from_clause (λ x. leb x.component c.args.component) _ _ c.partition_point-end.ensures.partitioned (IsPartitionedBy-leb (λ x. x.component) _ c.args.component c.requires) (λ a r q k. search rules)))

pub slice_bounds-result-start : goal.slice_bounds-result-start
slice_bounds-result-start c =
    let starts : c.partition_point-start.result ≤ c.partition_point-end.result = slice_bounds-result-count c in
    let ends = c.partition_point-end.ensures.bound in
    search rules

pub returns : goal.returns
returns c = range_is (λ x. x.component) c.args.component c.args.extents.now _ _ (range_of_points (λ x. x.component) c.args.component c.args.extents.now _ _
    c.partition_point-start.ensures.bound c.partition_point-end.ensures.bound
    (IsPartitionPoint-from_clause (λ x. ltb x.component c.args.component) _ _ c.partition_point-start.ensures.partitioned (IsPartitionedBy-ltb (λ x. x.component) _ c.args.component c.requires) (λ a r q k. search rules))
    (IsPartitionPoint-from_clause (λ x. leb x.component c.args.component) _ _ c.partition_point-end.ensures.partitioned (IsPartitionedBy-leb (λ x. x.component) _ c.args.component c.requires) (λ a r q k. search rules)))
