use Rattle.std.proofs.Common.{[], ◌∷◌, ◌++◌, Bool, if◌then◌else◌, sym, ◌∙◌, ap}
use Rattle.ldm_memory.proofs.DoneLaws.{pushed}
use Rattle.ldm_memory.proofs.steps.keep.Goals as goal

pub returns : goal.returns
returns c =
    pushed c.is_ok.result c.args.call c.args.calls.now.items c.push.new.self.items
    (c.push.ensures.items ∙ ap (λ (b : Bool). if b then c.args.calls.now.items ++ c.args.call ∷ [] else c.args.calls.now.items) (sym c.is_ok.ensures.value))
