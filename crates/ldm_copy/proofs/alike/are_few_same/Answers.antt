use Rattle.std.proofs.Common.{ℕ, length-take, arith}
use Rattle.ldm_host.specs.Seen.{image}
use Rattle.ldm_copy.proofs.AreaLaws.{few_same}
use Rattle.ldm_copy.proofs.alike.are_few_same.Goals as goal

pub returns-clause-is : goal.returns-clause-is
returns-clause-is g c tells =
    let content = (g.H.Host.seen c.args.host.now).content in
    few_same c.is_chunk_same.result (image content c.args.disk) (image content c.args.other) c.args.from c.args.other_from c.args.sectors _
    (omega (arith, length-take {A = ℕ})) (c.is_chunk_same.ensures.is tells)
