-- Pieces on disks of other components, record by record.
use Rattle.std.proofs.Common.{◌≡◌, ℕ, ◌+◌, ◌<◌, ◌==◌, ◌||◌, ◌&&◌, not, Bool, true, false, List, [], ◌∷◌, length, get_or, drop, inl, inr, refl, ap, sym, ◌∙◌, eqb-true, eq-eqb, ne_eqb}
use Rattle.ldm_edits.proofs.Common.{Record, Component, Partition, Wanted}
use Rattle.std.specs.List.{list_any}
use Rattle.std.proofs.lemmas.List.{at_drop_more}
use Rattle.ldm_records.specs.declared.types.Record.TheVariants as kinds
use Rattle.ldm_group.proofs.Rise.{tested}
use Rattle.ldm_edits.specs.Extended.{is_part_on, on_another, on_others}

-- ---- one record at a time

apart : (x p q a b : Bool) → ((x && (p || q)) || (a || b)) ≡ (((x && (p || false)) || a) || ((x && q) || b))
apart false p q a b = refl
apart true true q a b = refl
apart true false true true b = refl
apart true false true false b = refl
apart true false false a b = refl

regroup : (a b c d : Bool) → ((a || b) || (c || d)) ≡ ((a || c) || (b || d))
regroup true b c d = refl
regroup false true true d = refl
regroup false true false d = refl
regroup false false c d = refl

another_more : (r : Record) (rs : List Record) (cs : List Component) (own disk : ℕ) → on_another (r ∷ rs) cs own disk ≡ (on_another (r ∷ []) cs own disk || on_another rs cs own disk)
another_more r rs [] own disk = refl
another_more r rs (c ∷ cs) own disk =
    let x = not (c.head.id == own) in
    let p = is_part_on c.head.id disk r in
    let q = list_any (is_part_on c.head.id disk) rs in
    ap (λ b. (x && (p || q)) || b) (another_more r rs cs own disk) ∙ apart x p q (on_another (r ∷ []) cs own disk) (on_another rs cs own disk)

others_more : (r : Record) (rs : List Record) (all cs : List Component) (ws : List Wanted) → on_others (r ∷ rs) all cs ws ≡ (on_others (r ∷ []) all cs ws || on_others rs all cs ws)
others_more r rs all [] ws = refl
others_more r rs all (c ∷ cs) [] = refl
others_more r rs all (c ∷ cs) (w ∷ ws) =
    let a = on_another (r ∷ []) all c.head.id w.disk in
    let b = on_another rs all c.head.id w.disk in
    let d = on_others (r ∷ []) all cs ws in
    let e = on_others rs all cs ws in
    (λ i. another_more r rs all c.head.id w.disk i || others_more r rs all cs ws i) ∙ regroup a b d e

never : (b : Bool) → (not b && false) ≡ false
never true = refl
never false = refl

none_another : (cs : List Component) (own disk : ℕ) → on_another [] cs own disk ≡ false
none_another [] own disk = refl
none_another (c ∷ cs) own disk = ap (λ b. b || on_another [] cs own disk) (never (c.head.id == own)) ∙ none_another cs own disk

pub others_none : (all cs : List Component) (ws : List Wanted) → on_others [] all cs ws ≡ false
others_none all [] ws = refl
others_none all (c ∷ cs) [] = refl
others_none all (c ∷ cs) (w ∷ ws) = ap (λ b. b || on_others [] all cs ws) (none_another all c.head.id w.disk) ∙ others_none all cs ws

-- one record of a walk
pub others_at : (rs : List Record) (at : ℕ) (r : Record) (cs : List Component) (ws : List Wanted) (met : Bool) → at < length rs → r ≡ get_or rs at r → on_others (r ∷ []) cs cs ws ≡ met
    → on_others (drop at rs) cs cs ws ≡ (met || on_others (drop (at + 1) rs) cs cs ws)
others_at rs at r cs ws met lt is meets =
    at_drop_more (λ (l : List Record). on_others l cs cs ws) rs at r lt ∙ ap (λ (s : Record). on_others (s ∷ drop (at + 1) rs) cs cs ws) (sym is)
    ∙ others_more r (drop (at + 1) rs) cs cs ws ∙ ap (λ b. b || on_others (drop (at + 1) rs) cs cs ws) meets

-- ---- one record

not_part : (r : Record) (cs : List Component) (own disk : ℕ) → ((component : ℕ) → is_part_on component disk r ≡ false) → on_another (r ∷ []) cs own disk ≡ false
not_part r [] own disk other = refl
not_part r (c ∷ cs) own disk other =
    ap (λ b. (not (c.head.id == own) && (b || false)) || on_another (r ∷ []) cs own disk) (other c.head.id)
    ∙ ap (λ b. b || on_another (r ∷ []) cs own disk) (never (c.head.id == own)) ∙ not_part r cs own disk other

spread : (d o s rest : Bool) → (d && (not o && (s || rest))) ≡ ((not o && ((s && d) || false)) || (d && (not o && rest)))
spread true true s rest = refl
spread true false true rest = refl
spread true false false rest = refl
spread false true s rest = refl
spread false false true rest = refl
spread false false false rest = refl

own_there : (parent id own : ℕ) (d : Bool) → (not (parent == own) && (((parent == id) && d) || false)) ≡ (not (id == own) && (((parent == id) && d) || false))
own_there parent id own d = elim (tested (parent == id)) [
  | inl same ↦ ap (λ n. not (n == own) && (((parent == id) && d) || false)) (eqb-true parent id same)
  | inr other ↦ ap (λ b. not (parent == own) && ((b && d) || false)) other ∙ never (parent == own)
      ∙ sym (ap (λ b. not (id == own) && ((b && d) || false)) other ∙ never (id == own))
]

no_component : (d o : Bool) → (d && (not o && false)) ≡ false
no_component true o = never o
no_component false o = refl

by_disk : (p : Partition) (cs : List Component) (own disk : ℕ) → ((p.disk == disk) && (not (p.parent == own) && list_any (λ c. p.parent == c.head.id) cs)) ≡ on_another (kinds.Partition p ∷ []) cs own disk
by_disk p [] own disk = no_component (p.disk == disk) (p.parent == own)
by_disk p (c ∷ cs) own disk =
    spread (p.disk == disk) (p.parent == own) (p.parent == c.head.id) (list_any (λ c. p.parent == c.head.id) cs)
    ∙ (λ i. own_there p.parent c.head.id own (p.disk == disk) i || by_disk p cs own disk i)

-- it is on another disk
pub other_disk : (r : Record) (p : Partition) (cs : List Component) (own disk : ℕ) → r ≡ kinds.Partition p → (p.disk ≡ disk → ⊥) → false ≡ on_another (r ∷ []) cs own disk
other_disk r p cs own disk is ne =
    sym (ap (λ (s : Record). on_another (s ∷ []) cs own disk) is ∙ sym (by_disk p cs own disk)
    ∙ ap (λ b. b && (not (p.parent == own) && list_any (λ c. p.parent == c.head.id) cs)) (ne_eqb p.disk disk ne))

-- it is of the component itself
pub own_part : (r : Record) (p : Partition) (cs : List Component) (own disk : ℕ) → r ≡ kinds.Partition p → p.parent ≡ own → false ≡ on_another (r ∷ []) cs own disk
own_part r p cs own disk is same =
    sym (ap (λ (s : Record). on_another (s ∷ []) cs own disk) is ∙ sym (by_disk p cs own disk)
    ∙ ap (λ b. (p.disk == disk) && (not b && list_any (λ c. p.parent == c.head.id) cs)) (eq-eqb p.parent own same) ∙ none_left (p.disk == disk))
  where
    none_left : (d : Bool) → (d && false) ≡ false
    none_left true = refl
    none_left false = refl

-- it is on the disk, and of another component of these or of none
pub across : (r : Record) (p : Partition) (cs : List Component) (own disk : ℕ) → r ≡ kinds.Partition p → p.disk ≡ disk → (p.parent ≡ own → ⊥)
    → list_any (λ c. p.parent == c.head.id) cs ≡ on_another (r ∷ []) cs own disk
across r p cs own disk is at ne =
    sym (ap (λ (s : Record). on_another (s ∷ []) cs own disk) is ∙ sym (by_disk p cs own disk)
    ∙ (λ i. eq-eqb p.disk disk at i && (not (ne_eqb p.parent own ne i) && list_any (λ c. p.parent == c.head.id) cs)))

-- it is no partition
pub no_part : (r : Record) (cs : List Component) (own disk : ℕ) → ((p : Partition) → r ≡ kinds.Partition p → ⊥) → false ≡ on_another (r ∷ []) cs own disk
no_part (kinds.Group g) cs own disk other = sym (not_part (kinds.Group g) cs own disk (λ component. refl))
no_part (kinds.Disk d) cs own disk other = sym (not_part (kinds.Disk d) cs own disk (λ component. refl))
no_part (kinds.Volume v) cs own disk other = sym (not_part (kinds.Volume v) cs own disk (λ component. refl))
no_part (kinds.Component c) cs own disk other = sym (not_part (kinds.Component c) cs own disk (λ component. refl))
no_part (kinds.Partition p) cs own disk other = absurd (other p refl)
