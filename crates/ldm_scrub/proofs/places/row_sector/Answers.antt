use Rattle.std.proofs.Common.{◌-◌, ◌*◌, ◌/◌, arith}
use Rattle.ldm_dump.proofs.RunLaws.{chunk_is}
use Rattle.std.proofs.lemmas.Nat.{mul-le}
use Rattle.ldm_scrub.proofs.CompareLaws.{untiled, sector_raid5}
use Rattle.ldm_scrub.proofs.places.row_sector.Goals as goal

pub returns-clause-is : goal.returns-clause-is
returns-clause-is c = grind (arith, chunk_is, untiled, sector_raid5)

pub overflow_add-result : goal.overflow_add-result
overflow_add-result c = (let e = returns-clause-is c in omega (arith, e, c.requires.within, c.size-size.ensures, c.size-size.type_inv))

pub overflow_mul-result-2 : goal.overflow_mul-result-2
overflow_mul-result-2 c = (let e = returns-clause-is c in omega (arith, e, c.requires.within, c.size-size.ensures, c.size-size.type_inv))

pub overflow_mul-result : goal.overflow_mul-result
overflow_mul-result c =
    let e = returns-clause-is c in
    let wide = mul-le (c.args.place / c.chunk-chunk.result * (c.columns.result - 1)) 1 (c.args.place / c.chunk-chunk.result * (c.columns.result - 1)) c.chunk-chunk.result (omega arith)
    (c.chunk-chunk.ensures.some (untiled c.args.plan.now c.requires.raid5)) in
    omega (arith, e, wide, c.requires.within, c.size-size.ensures, c.size-size.type_inv)
