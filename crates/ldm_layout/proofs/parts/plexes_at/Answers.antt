use Rattle.std.proofs.Common.{◌≤◌, rules, leb, ltb, None}
use Rattle.std.proofs.lemmas.List.Sorted.{IsPartitionPoint-from_clause, IsPartitionedBy-leb, IsPartitionedBy-ltb}
use Rattle.ldm_layout.proofs.SortLaws.{range_of_points, range_order, range_is}
use Rattle.ldm_layout.specs.declared.parts.Plex.{Plex}
use Rattle.ldm_layout.proofs.parts.plexes_at.Goals as goal

pub slice_bounds-result-count : goal.slice_bounds-result-count
slice_bounds-result-count c =
    let none : Plex = record { volume = 0; id = 0; layout = 0; striping = None } in
    range_order (λ x. x.volume) c.args.volume c.args.plexes.now none _ _ (range_of_points (λ x. x.volume) c.args.volume c.args.plexes.now _ _
    c.partition_point-start.ensures.bound c.partition_point-end.ensures.bound
    (IsPartitionPoint-from_clause (λ x. ltb x.volume c.args.volume) _ _ c.partition_point-start.ensures.partitioned (IsPartitionedBy-ltb (λ x. x.volume) _ c.args.volume c.requires) (λ a r q k. search rules))
    (IsPartitionPoint-from_clause (λ x. leb x.volume c.args.volume) _ _ c.partition_point-end.ensures.partitioned (IsPartitionedBy-leb (λ x. x.volume) _ c.args.volume c.requires) (λ a r q k. search rules)))

pub slice_bounds-result-start : goal.slice_bounds-result-start
slice_bounds-result-start c =
    let starts : c.partition_point-start.result ≤ c.partition_point-end.result = slice_bounds-result-count c in
    let ends = c.partition_point-end.ensures.bound in
    search rules

pub returns : goal.returns
returns c = range_is (λ x. x.volume) c.args.volume c.args.plexes.now _ _ (range_of_points (λ x. x.volume) c.args.volume c.args.plexes.now _ _
    c.partition_point-start.ensures.bound c.partition_point-end.ensures.bound
    (IsPartitionPoint-from_clause (λ x. ltb x.volume c.args.volume) _ _ c.partition_point-start.ensures.partitioned (IsPartitionedBy-ltb (λ x. x.volume) _ c.args.volume c.requires) (λ a r q k. search rules))
    (IsPartitionPoint-from_clause (λ x. leb x.volume c.args.volume) _ _ c.partition_point-end.ensures.partitioned (IsPartitionedBy-leb (λ x. x.volume) _ c.args.volume c.requires) (λ a r q k. search rules)))
