use Rattle.std.proofs.Common.{[], ◌≡◌, ℕ, ◌∷◌, ◌++◌, Ok, Bool, is_ok, true, if◌then◌else◌, sym, ◌∙◌, ap, Vec}
use Rattle.std.specs.declared.alloc.Global.{Global}
use Rattle.ldm_memory.proofs.DoneLaws.{on_ok}
use Rattle.ldm_memory.proofs.made.push_made.Goals as goal

pub returns : goal.returns
returns c =
    let old = c.args.images.now.items in
    let image = c.in_ok-made.field-0 in
    on_ok ((x : Vec ℕ Global) × (c.args.made ≡ Ok x) × (c.push.new.self.items ≡ old ++ x ∷ [])) c.ok_or.result (λ ok.
    let there : is_ok c.push.result ≡ true = sym c.ok.ensures.variant ∙ sym c.ok_or.ensures.variant ∙ ok in
    (image, c.in_ok-made.was, c.push.ensures.items ∙ ap (λ (b : Bool). if b then old ++ image ∷ [] else old) there))
