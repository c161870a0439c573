-- The sectors of each disk, one record after the other.
use Rattle.std.proofs.Common.{◌≡◌, ℕ, ◌+◌, ◌*◌, ◌^◌, ◌<◌, ◌≤◌, ◌==◌, inl, inr, Option, Some, cond, List, length, take, get_or, unwrap_or, refl, ap, sym, ◌∙◌, arith}
use Rattle.std.proofs.lemmas.Bool.{eqb-true}
use Rattle.std.proofs.lemmas.List.Sums.{sum_by_more}
use Rattle.ldm_records.specs.declared.types.Record.{Record}
use Rattle.ldm_records.specs.declared.types.Record.TheVariants as kinds
use Rattle.ldm_records.specs.declared.types.Partition.{Partition}
use Rattle.ldm_group.specs.Partitions.{size_on, used_on}
use Rattle.ldm_group.proofs.Rise.{tested}

-- each disk has the sectors of the records before a place, and no more than so many records have
pub record Sums (has : ℕ → ℕ) (records : List Record) (at : ℕ) : Type 0 where
  pub is : (disk : ℕ) → has disk ≡ used_on (take at records) disk
  pub few : (disk : ℕ) → has disk ≤ at * 2 ^ 64

no_size : (disk : ℕ) (r : Record) → ((p : Partition) → r ≡ kinds.Partition p → ⊥) → size_on disk r ≡ 0
no_size disk (kinds.Partition p) other = absurd (other p refl)
no_size disk (kinds.Group g) other = refl
no_size disk (kinds.Disk d) other = refl
no_size disk (kinds.Volume v) other = refl
no_size disk (kinds.Component c) other = refl

few_on : (disk : ℕ) (p : Partition) → p.size < 2 ^ 64 → size_on disk (kinds.Partition p) ≤ 2 ^ 64
few_on disk p low = elim (tested (p.disk == disk)) [
  | inl holds ↦ (let e : size_on disk (kinds.Partition p) ≡ p.size = ap (λ b. cond b p.size 0) holds in omega (arith, e, low))
  | inr fails ↦ (let e : size_on disk (kinds.Partition p) ≡ 0 = ap (λ b. cond b p.size 0) fails in omega (arith, e))
]

module _ (records : List Record) (at : ℕ) (r : Record) (lt : at < length records) (is : r ≡ get_or records at r) where
  more : (disk : ℕ) → used_on (take (at + 1) records) disk ≡ used_on (take at records) disk + size_on disk r
  more disk = sum_by_more (size_on disk) records at r lt ∙ ap (λ (s : Record). used_on (take at records) disk + size_on disk s) (sym is)

  -- a record that is no partition
  pub passed : (has : ℕ → ℕ) → ((p : Partition) → r ≡ kinds.Partition p → ⊥) → Sums has records at → Sums has records (at + 1)
  passed has other before = record {
    is = λ disk. let next = more disk in let none = no_size disk r other in let old = before.is disk in omega (arith, next, none, old);
    few = λ disk. let old = before.few disk in omega (arith, old);
  }

  -- a partition, whose sectors its disk has more
  module _ (p : Partition) (here : r ≡ kinds.Partition p) (low : p.size < 2 ^ 64) (f g : ℕ → Option ℕ)
      (put : (q : ℕ) → g q ≡ cond (p.disk == q) (Some (unwrap_or (f p.disk) 0 + p.size)) (f q)) where
    plus : (disk : ℕ) → unwrap_or (g disk) 0 ≡ unwrap_or (f disk) 0 + size_on disk (kinds.Partition p)
    plus disk = elim (tested (p.disk == disk)) [
      | inl holds ↦ ap (λ o. unwrap_or o 0) (put disk ∙ ap (λ b. cond b (Some (unwrap_or (f p.disk) 0 + p.size)) (f disk)) holds)
          ∙ ap (λ q. unwrap_or (f q) 0 + p.size) (eqb-true p.disk disk holds) ∙ ap (λ b. unwrap_or (f disk) 0 + cond b p.size 0) (sym holds)
      | inr fails ↦ (let same : unwrap_or (g disk) 0 ≡ unwrap_or (f disk) 0 = ap (λ o. unwrap_or o 0) (put disk ∙ ap (λ b. cond b (Some (unwrap_or (f p.disk) 0 + p.size)) (f disk)) fails) in
          let none : size_on disk (kinds.Partition p) ≡ 0 = ap (λ b. cond b p.size 0) fails in
          omega (arith, same, none))
    ]

    pub added : Sums (λ disk. unwrap_or (f disk) 0) records at → Sums (λ disk. unwrap_or (g disk) 0) records (at + 1)
    added before = record {
      is = λ disk. plus disk ∙ ap (λ n. n + size_on disk (kinds.Partition p)) (before.is disk) ∙ ap (λ (s : Record). used_on (take at records) disk + size_on disk s) (sym here) ∙ sym (more disk);
      few = λ disk. let new = plus disk in let old = before.few disk in let size = few_on disk p low in omega (arith, new, old, size);
    }
