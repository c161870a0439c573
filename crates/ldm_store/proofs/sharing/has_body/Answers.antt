use Rattle.std.proofs.Common.{◌≡◌, inl, inr, List, ℕ, Bool, Option, Some, IfSome, IsTrue, false, sym, subst, ◌∙◌}
use Rattle.ldm_host.specs.Seen.{image}
use Rattle.ldm_body.specs.Table.{body_bytes}
use Rattle.ldm_store.proofs.sharing.has_body.Goals as goal

not_true : (b : Bool) → IsTrue b → b ≡ false → ⊥
not_true b met is = cc

is_of : (found : Option (List ℕ)) (other bytes : List ℕ) → found ≡ Some other → IfSome found (λ b. b ≡ bytes) → other ≡ bytes
is_of found other bytes is same = subst (λ (o : Option (List ℕ)). IfSome o (λ b. b ≡ bytes)) is same

pub returns-in-Some-clause-no : goal.returns-in-Some-clause-no
returns-in-Some-clause-no g c tells differs =
    let bytes = body_bytes c.args.db.now c.args.label.now (image (g.H.Host.seen c.args.host.now).content c.args.disk) in
    let same = is_of c.in_ok-found.found c.in-Some.other bytes c.in-Some.is (c.in_ok-found.ensures.same tells) in
    inr (λ e. not_true c.same.result (c.same.ensures.1 (e ∙ sym same)) differs)

pub returns-clause-no : goal.returns-clause-no
returns-clause-no g c tells same = inl (c.in_ok-found.ensures.none tells c.in-None.is)
