use Rattle.std.proofs.Common.{rules, ◌≡◌}
use Rattle.ldm_memory.specs.declared.call.Call.TheVariants.{Write}
use Rattle.ldm_memory.specs.Steps.{IsWriteOf}
use Rattle.ldm_memory.proofs.DoneLaws.{adds_as}
use Rattle.ldm_memory.proofs.steps.keep_write.Goals as goal

pub returns-in-Ok : goal.returns-in-Ok
returns-in-Ok c =
    let same : c.in-Ok.bytes.items ≡ c.args.taken.now = search rules in
    adds_as _ (λ call. call ≡ Write c.args.disk c.args.at c.in-Ok.bytes c.args.asked) (IsWriteOf c.args.disk c.args.at c.args.taken.now c.args.asked) _ _ (λ call is. (c.in-Ok.bytes, is, same)) c.keep.ensures
