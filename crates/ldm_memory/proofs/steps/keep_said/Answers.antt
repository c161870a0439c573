use Rattle.std.proofs.Common.{rules, ◌≡◌}
use Rattle.ldm_memory.specs.declared.call.Call.TheVariants.{Say}
use Rattle.ldm_memory.specs.Steps.{IsSayOf}
use Rattle.ldm_memory.proofs.DoneLaws.{adds_as}
use Rattle.ldm_memory.proofs.steps.keep_said.Goals as goal

pub returns-in-Ok : goal.returns-in-Ok
returns-in-Ok c =
    let same : c.in-Ok.bytes.items ≡ c.args.said.now = search rules in
    adds_as _ (λ call. call ≡ Say c.in-Ok.bytes) (IsSayOf c.args.said.now) _ _ (λ call is. (c.in-Ok.bytes, is, same)) c.keep.ensures
