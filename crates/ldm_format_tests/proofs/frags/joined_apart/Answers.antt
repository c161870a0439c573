use Rattle.std.proofs.Common.{◌≢◌, ℕ, List, [], ◌∷◌, All, AllPairs, sym, subst, arith}
use Rattle.std.proofs.lemmas.List.Elements.{All-cons, All-nil}
use Rattle.std.proofs.lemmas.List.Kept.{AllPairs-cons}
use Rattle.ldm_written.specs.Written.{IsInUse}
use Rattle.ldm_format_tests.proofs.frags.joined_apart.Goals as goal

-- the numbers of three blocks differ
apart_three : (a b c : ℕ) → a ≢ b → a ≢ c → b ≢ c → AllPairs (λ x y. x ≢ y) (a ∷ b ∷ c ∷ [])
apart_three a b c first second third =
    AllPairs-cons (λ (x y : ℕ). x ≢ y) a (b ∷ c ∷ []) (All-cons (λ (y : ℕ). a ≢ y) b (c ∷ []) first (All-cons (λ (y : ℕ). a ≢ y) c [] second (All-nil (λ (y : ℕ). a ≢ y))))
    (AllPairs-cons (λ (x y : ℕ). x ≢ y) b (c ∷ []) (All-cons (λ (y : ℕ). b ≢ y) c [] third (All-nil (λ (y : ℕ). b ≢ y)))
    (AllPairs-cons (λ (x y : ℕ). x ≢ y) c [] (All-nil (λ (y : ℕ). c ≢ y)) (λ i j d below lt. absurd (omega (arith, lt)))))

-- three blocks are all in use
within_three : (blocks : List ℕ) (a b c : ℕ) → IsInUse blocks a → IsInUse blocks b → IsInUse blocks c → All (IsInUse blocks) (a ∷ b ∷ c ∷ [])
within_three blocks a b c first second third =
    All-cons (IsInUse blocks) a (b ∷ c ∷ []) first (All-cons (IsInUse blocks) b (c ∷ []) second (All-cons (IsInUse blocks) c [] third (All-nil (IsInUse blocks))))

pub write_record-requires-clause-apart : goal.write_record-requires-clause-apart
write_record-requires-clause-apart c =
    subst (λ (l : List ℕ). AllPairs (λ x y. x ≢ y) l) (sym c.in_ok-slots.ensures)
    (apart_three 9 5 7 (λ e. absurd (omega (arith, e))) (λ e. absurd (omega (arith, e))) (λ e. absurd (omega (arith, e))))

pub write_record-requires-clause-within : goal.write_record-requires-clause-within
write_record-requires-clause-within c =
    subst (λ (l : List ℕ). All (IsInUse c.loop-number.blocks) l) (sym c.in_ok-slots.ensures)
    (within_three c.loop-number.blocks 9 5 7 (omega arith, omega arith) (omega arith, omega arith) (omega arith, omega arith))
