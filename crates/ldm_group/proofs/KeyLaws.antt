-- Objects as keys.
use Rattle.std.proofs.Common.{◌≡◌, ℕ, ◌==◌, ◌&&◌, ◌||◌, Bool, true, arith, ap}
use Rattle.std.proofs.lemmas.Bool.{and_parts, eqb-true}
use Rattle.ldm_records.specs.declared.types.Record.TheVariants as kinds
use Rattle.ldm_records.specs.declared.types.Component.{Component}
use Rattle.ldm_records.specs.declared.types.Partition.{Partition}
use Rattle.ldm_group.specs.declared.index.ObjectId.{ObjectId}
use Rattle.ldm_group.specs.Hits.{is_object}
use Rattle.ldm_group.specs.Looks.{is_child}

abbrev pub same_object : ObjectId → ObjectId → Bool
same_object a b = is_object a.kind a.id b

-- a key is no other
pub one_object : (a b : ObjectId) → same_object a b ≡ true → a ≡ b
one_object a b same =
    let both = and_parts _ _ same in
    λ i. record { kind = eqb-true a.kind b.kind both.0 i; id = eqb-true a.id b.id both.1 i }

turned : (a b : ℕ) → (a == b) ≡ (b == a)
turned a b = grind arith

-- what a component and a partition are the children of
pub of_volume : (c : Component) (key : ObjectId) → is_child key.kind key.id (kinds.Component c) ≡ same_object (record { kind = 3; id = c.parent }) key
of_volume c key = ap (λ (b : Bool). b && (c.parent == key.id)) (turned key.kind 3)

pub of_both : (p : Partition) (key : ObjectId)
    → is_child key.kind key.id (kinds.Partition p) ≡ (same_object (record { kind = 4; id = p.parent }) key || same_object (record { kind = 2; id = p.disk }) key)
of_both p key = λ i. ((turned key.kind 4 i) && (p.parent == key.id)) || ((turned key.kind 2 i) && (p.disk == key.id))
