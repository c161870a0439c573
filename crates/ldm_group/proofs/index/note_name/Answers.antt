use Rattle.std.proofs.Common.{◌≡◌, ℕ, List, Some, bytes_eq, cond, subst}
use Rattle.ldm_group.specs.Hits.{at_name, one_more}
use Rattle.ldm_group.proofs.HitLaws.{names_after, where_ok}
use Rattle.ldm_group.proofs.index.note_name.Goals as goal

pub returns : goal.returns
returns c =
    let names = c.args.names.now in
    where_ok c.note.result (λ put.
    subst (λ (name : List ℕ). (q : List ℕ) → at_name c.note.new.map q ≡ cond (bytes_eq name q) (Some (one_more (at_name names name) c.args.at)) (at_name names q))
    c.in_ok-from_slice.ensures.items (names_after names c.note.new.map c.in_ok-from_slice.field-0 _ put)) c.note.ensures
