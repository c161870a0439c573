use Rattle.std.proofs.Common.{◌≡◌, ◌∙◌, take, sym, arith}
use Rattle.std.proofs.lemmas.Grind.{common_steps}
use Rattle.ldm_group.specs.Hits.{at_object}
use Rattle.ldm_group.specs.Looks.{is_at}
use Rattle.ldm_group.specs.Order.{kind_of, id_of}
use Rattle.ldm_group.proofs.HitLaws.{hits_few, noted, where_ok}
use Rattle.ldm_group.proofs.KeyLaws.{one_object, same_object}
use Rattle.ldm_group.proofs.index.note_id.Goals as goal

pub note-requires : goal.note-requires
note-requires c =
    let key = c.new.result in
    let few = hits_few (is_at key.kind key.id) (take c.args.at c.args.records.now) in
    let found = c.requires.before key.kind key.id in
    grind (arith, common_steps)

pub returns : goal.returns
returns c = where_ok c.note.result (λ put kind id.
    noted c.args.records.now c.args.at c.index-records-at.result c.requires.within c.index-records-at.is same_object (λ key. is_at key.kind key.id)
    (λ key. at_object c.args.ids.now key.kind key.id) (λ key. at_object c.note.new.map key.kind key.id) c.new.result (one_object c.new.result) put.0
    (λ key i. same_object (own i) key) (λ key. c.requires.before key.kind key.id) (record { kind = kind; id = id })) c.note.ensures
  where
    own : record { kind = kind_of c.index-records-at.result; id = id_of c.index-records-at.result } ≡ c.new.result
    own = (λ i. record { kind = sym c.kind_of.ensures i; id = sym c.id_of.ensures i }) ∙ sym c.new.ensures
