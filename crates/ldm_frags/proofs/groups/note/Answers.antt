use Rattle.std.proofs.Common.{◌≡◌, ◌<◌, ℕ, true, false, leb, Some, set, subst, ap, arith}
use Rattle.std.proofs.lemmas.Bool.{lt-leb}
use Rattle.std.specs.Ordering.{nat_cmp}
use Rattle.std.specs.BTreeMap.{Updates}
use Rattle.ldm_frags.specs.declared.blocks.Head.{Head}
use Rattle.ldm_frags.specs.declared.groups.Group.{Group}
use Rattle.ldm_frags.specs.Blocks.{parts, is_fragment}
use Rattle.ldm_frags.proofs.JoinLaws.{sound_of, frag_is}
use Rattle.ldm_frags.proofs.KeptLaws.{table_add, table_skip}
use Rattle.ldm_frags.proofs.groups.note.Goals as goal

pub bounds-found-head : goal.bounds-found-head
bounds-found-head c = let few = c.requires.few in omega arith

pub returns : goal.returns
returns c = λ blocks e clean table.
    let groups = c.args.groups.now in
    let head = c.args.head in
    let k = c.args.k in
    let frag : is_fragment blocks k ≡ true = frag_is blocks k head.parts (ap (λ (h : Head). h.parts) e) (omega arith) in
    let updates = subst (λ (s : Group). Updates nat_cmp groups c.insert.new.self head.group (Some (record { parts = s.parts; places = set s.places head.part (Some k) }))) c.group_of-found.ensures c.in_ok-insert.ensures.updates in
    table_add blocks k head.group head.part head.parts groups c.insert.new.self table (sound_of blocks k clean) frag
    (ap (λ (h : Head). h.group) e) (ap (λ (h : Head). h.part) e) (ap (λ (h : Head). h.parts) e) (c.requires.few (omega arith)) updates

pub returns-then-head-lt2 : goal.returns-then-head-lt2
returns-then-head-lt2 c = λ blocks e clean table.
    let few : leb 2 (parts blocks c.args.k) ≡ false = lt-leb _ _ (subst (λ (n : ℕ). n < 2) (ap (λ (h : Head). h.parts) e) (omega arith)) in
    table_skip blocks c.args.k c.args.groups.now few table
