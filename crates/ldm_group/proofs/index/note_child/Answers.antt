use Rattle.std.proofs.Common.{sym, ◌||◌, ◌∙◌, take, ap, arith}
use Rattle.std.proofs.lemmas.Grind.{common_steps}
use Rattle.ldm_group.specs.Hits.{at_object}
use Rattle.ldm_group.specs.Looks.{is_child}
use Rattle.ldm_group.proofs.HitLaws.{hits_few, noted, noted_two, where_ok}
use Rattle.ldm_group.proofs.KeyLaws.{of_both, of_volume, one_object, same_object}
use Rattle.ldm_group.proofs.index.note_child.Goals as goal

pub note-requires : goal.note-requires
note-requires c =
    let key = c.new.result in
    let few = hits_few (is_child key.kind key.id) (take c.args.at c.args.records.now) in
    let found = c.requires.before key.kind key.id in
    grind (arith, common_steps)

pub note-requires-in-Partition : goal.note-requires-in-Partition
note-requires-in-Partition c =
    let key = c.new-in-Partition.result in
    let few = hits_few (is_child key.kind key.id) (take c.args.at c.args.records.now) in
    let found = c.requires.before key.kind key.id in
    grind (arith, common_steps)

pub note-requires-in-Partition-2 : goal.note-requires-in-Partition-2
note-requires-in-Partition-2 c =
    let key = c.new-in-Partition-2.result in
    let few = hits_few (is_child key.kind key.id) (take c.args.at c.args.records.now) in
    let found = c.requires.before key.kind key.id in
    let same = c.in_ok-note-in-Partition.ensures.2 key (λ i. same_object (c.new-in-Partition.ensures i) (c.new-in-Partition-2.ensures i)) in
    grind (arith, common_steps)

pub returns-in-Component : goal.returns-in-Component
returns-in-Component c = where_ok c.note.result (λ put kind id.
    noted c.args.records.now c.args.at c.index-records-at.result c.requires.within c.index-records-at.is same_object (λ key. is_child key.kind key.id)
    (λ key. at_object c.args.children.now key.kind key.id) (λ key. at_object c.note.new.map key.kind key.id)
    c.new.result (one_object c.new.result) put.0
    (λ key. ap (is_child key.kind key.id) c.in-Component.is ∙ of_volume c.in-Component.c key ∙ (λ i. same_object (sym c.new.ensures i) key))
    (λ key. c.requires.before key.kind key.id) (record { kind = kind; id = id })) c.note.ensures

pub returns-in_ok-note-in-Partition : goal.returns-in_ok-note-in-Partition
returns-in_ok-note-in-Partition c = where_ok c.note-in-Partition-2.result (λ put kind id.
    noted_two c.args.records.now c.args.at c.index-records-at.result c.requires.within c.index-records-at.is same_object (λ key. is_child key.kind key.id)
    (λ key. at_object c.args.children.now key.kind key.id) (λ key. at_object c.note-in-Partition.new.map key.kind key.id) (λ key. at_object c.note-in-Partition-2.new.map key.kind key.id)
    c.new-in-Partition.result c.new-in-Partition-2.result (one_object c.new-in-Partition.result) (one_object c.new-in-Partition-2.result)
    (λ i. same_object (c.new-in-Partition.ensures i) (c.new-in-Partition-2.ensures i))
    c.in_ok-note-in-Partition.ensures.0 put.0
    (λ key. ap (is_child key.kind key.id) c.in-Partition.is ∙ of_both c.in-Partition.p key
    ∙ (λ i. same_object (sym c.new-in-Partition.ensures i) key || same_object (sym c.new-in-Partition-2.ensures i) key))
    (λ key. c.requires.before key.kind key.id) (record { kind = kind; id = id })) c.note-in-Partition-2.ensures
