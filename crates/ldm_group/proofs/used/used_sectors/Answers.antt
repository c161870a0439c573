use Rattle.std.proofs.Common.{◌+◌, ◌^◌, ◌<◌, Some, unwrap_or, nat_eq, ap, ◌∙◌, ℕ, arith, cond, ◌==◌}
use Rattle.indexmap.specs.IndexMap as map
use Rattle.ldm_group.proofs.UsedLaws.{passed, added}
use Rattle.ldm_group.proofs.used.used_sectors.Goals as goal
use Rattle.ldm_group.proofs.used.used_sectors.Goals.{in-Partition+in_ok-insert, in_default}

pub overflow_add-sectors : goal.overflow_add-sectors
overflow_add-sectors c = let few = c.loop-r.invariant.few c.in-Partition.p.disk in omega arith

pub loop-r-preserved : goal.loop-r-preserved
loop-r-preserved c =
    let records = c.args.records.now in
    let at = c.loop-r.r-index in
    elim c.match-r.branch [
      | in-Partition+in_ok-insert w ↦ rw w.used-is
          (let p = w.in-Partition.p in
          let low : p.size < 2 ^ 64 = omega arith in
          let sectors : _ = ap (λ (n : ℕ). n + w.from.result) w.used_of.ensures ∙ ap (λ (n : ℕ). unwrap_or (map.get nat_eq c.loop-r.used p.disk) 0 + n) w.from.ensures in
          added records at c.r-item.result c.loop-r-test.true c.r-item.is p w.in-Partition.is low (map.get nat_eq c.loop-r.used) (map.get nat_eq w.insert.new.self)
          (λ q. w.in_ok-insert.ensures.updates.0 q ∙ ap (λ (n : ℕ). cond (p.disk == q) (Some n) (map.get nat_eq c.loop-r.used q)) sectors) c.loop-r.invariant)
      | in_default w ↦ rw w.used-is
          (passed records at c.r-item.result c.loop-r-test.true c.r-item.is (λ disk. unwrap_or (map.get nat_eq c.loop-r.used disk) 0) w.in_default.not-Partition c.loop-r.invariant)
    ]
