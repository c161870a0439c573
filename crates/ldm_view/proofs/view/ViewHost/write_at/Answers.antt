use Rattle.std.proofs.Common.{◌≡◌, ◌<◌, ◌∙◌, ℕ, length, sym, ap, subst, nat_eq, arith, false}
use Rattle.std.proofs.lemmas.List.{nil_from_length, length-set}
use Rattle.std.proofs.lemmas.Bool.Decides.{nat_tests}
use Rattle.ldm_view.proofs.ViewLaws.{refused_writes, set_nothing, none_handed}
use Rattle.ldm_view.specs.Patches.{shown}
use Rattle.ldm_view.proofs.view.ViewHost.write_at.Goals as goal

pub returns-then-is_empty-clause-written : goal.returns-then-is_empty-clause-written
returns-then-is_empty-clause-written g c tells =
    let none : length c.args.bytes.now ≡ 0 = grind (arith, nat_tests, c.is_empty.ensures, c.if-is_empty.true) in
    set_nothing (shown c.args.self.now.patches.items (g.H.Host.seen c.args.self.now.host).content) c.args.disk c.args._at c.args.bytes.now (nil_from_length c.args.bytes.now none)

pub returns-then-is_empty-clause-writes : goal.returns-then-is_empty-clause-writes
returns-then-is_empty-clause-writes g c =
    let now = c.args.self.now in
    refused_writes g.H.Host.tells_disks now.patches.items now.wrote.items c.hand.new.wrote.items now.refused now.refused (g.H.Host.seen now.host) (omega arith)
    (g.met.H.Host.only_now now.host) (g.met.H.Host.counts_now now.host) c.args.disk c.args._at (length c.args.bytes.now) (subst (λ (n : ℕ). c.args.disk < n) (sym now.counted) c.requires.disk) c.hand.ensures

pub returns-clause-writes : goal.returns-clause-writes
returns-clause-writes g c =
    let now = c.args.self.now in
    refused_writes g.H.Host.tells_disks now.patches.items now.wrote.items c.hand.new.wrote.items now.refused c.saturating_add-self.result (g.H.Host.seen now.host) (omega (arith, c.saturating_add-self.ensures))
    (g.met.H.Host.only_now now.host) (g.met.H.Host.counts_now now.host) c.args.disk c.args._at (length c.args.bytes.now) (subst (λ (n : ℕ). c.args.disk < n) (sym now.counted) c.requires.disk) c.hand.ensures

some : (n : ℕ) → n ≡ 0 → nat_eq n 0 ≡ false → ⊥
some n zero_is other = grind (arith, nat_tests)

pub invariant_of-self-2 : goal.invariant_of-self-2
invariant_of-self-2 g c =
    let now = c.args.self.now in
    record {
      counted = ap length c.hand.ensures ∙ length-set now.wrote.items c.args.disk _ ∙ now.counted;
      lie = now.lie;
      fixed = now.fixed;
      unrefused = λ none.
          let handed = none_handed now.wrote.items c.hand.new.wrote.items c.args.disk (length c.args.bytes.now) (subst (λ (n : ℕ). c.args.disk < n) (sym now.counted) c.requires.disk) c.hand.ensures none in
          absurd (some (length c.args.bytes.now) handed.0 (sym c.is_empty.ensures ∙ c.if-is_empty.false));
      still = now.still;
    }
