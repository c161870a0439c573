use Rattle.std.proofs.Common.{◌≡◌, ◌<◌, ℕ, List, length, slice_get, Option, Some, IfSome, refl, sym, ◌∙◌, ap, subst}
use Rattle.ldm_host.proofs.Relations.{looks_as}
use Rattle.ldm_label.specs.declared.Label.{Label}
use Rattle.ldm_vmdb.specs.declared.header.Header.{Header}
use Rattle.ldm_group.specs.Database.{Database}
use Rattle.ldm_body.specs.Table.{IsCoreBody}
use Rattle.ldm_copy.specs.declared.found.Found.{Found}
use Rattle.ldm_copy.specs.declared.notes.Note.{Note}
use Rattle.ldm_found.specs.Facts.{LieOn}
use Rattle.ldm_store.proofs.ClearLaws.{clear_of}
use Rattle.ldm_found.proofs.FoundLaws.{holds_group}
use Rattle.ldm_store.specs.Bodies.{KeepsBody, ShareNone}
use Rattle.ldm_store.proofs.OpensLaws.{low_last, high_last}
use Rattle.ldm_store.proofs.SettleLaws.{room_all, not_tidy, all_begun, is_exact}
use Rattle.ldm_store.proofs.ResultLaws.{no_error, true_not_false}
use Rattle.ldm_store.proofs.sharing.healing_body.Goals as goal

-- of the group, by what was taken of it
abbrev AllKeep : ℕ → List Label → List Note → Database → List ℕ → List (List ℕ) → Type 0
AllKeep seq labels notes db body images = (disk : ℕ) → disk < length labels → KeepsBody seq labels notes db body images disk

keep_found : (found : Found) (header : Header) (labels : List Label) (notes : List Note) (body : List ℕ) (images : List (List ℕ)) → header ≡ found.db.header → labels ≡ found.labels → notes ≡ found.notes
    → AllKeep header.seq labels notes found.db body images → AllKeep found.db.header.seq found.labels found.notes found.db body images
keep_found found header labels notes body images head of_labels of_notes keep =
    subst (λ (h : Header). AllKeep h.seq found.labels found.notes found.db body images) head
    (subst (λ (l : List Label). AllKeep header.seq l found.notes found.db body images) of_labels
    (subst (λ (n : List Note). AllKeep header.seq labels n found.db body images) of_notes keep))

share_found : (found : Found) (header : Header) (labels : List Label) (notes : List Note) (images : List (List ℕ)) → header ≡ found.db.header → labels ≡ found.labels → notes ≡ found.notes
    → ShareNone header.seq labels notes found.db images → ShareNone found.db.header.seq found.labels found.notes found.db images
share_found found header labels notes images head of_labels of_notes none =
    subst (λ (h : Header). ShareNone h.seq found.labels found.notes found.db images) head
    (subst (λ (l : List Label). ShareNone header.seq l found.notes found.db images) of_labels
    (subst (λ (n : List Note). ShareNone header.seq labels n found.db images) of_notes none))

some_keep : (found : Option (List ℕ)) (body : List ℕ) (Is : List ℕ → Type 0) → found ≡ Some body → IfSome found Is → Is body
some_keep found body Is is same = subst (λ (o : Option (List ℕ)). IfSome o Is) is same

pub shared_body-requires-clause-lie : goal.shared_body-requires-clause-lie
shared_body-requires-clause-lie g c = subst (λ (l : List Label). LieOn l (g.H.Host.seen c.args.host.now).sizes) (sym c.as_slice-labels.ensures) c.requires.lies

pub shared_body-requires-clause-one_note : goal.shared_body-requires-clause-one_note
shared_body-requires-clause-one_note g c = ap length c.as_slice.ensures ∙ c.requires.sound.one_note ∙ sym (ap length c.as_slice-labels.ensures)

pub shared_body-requires-clause-low : goal.shared_body-requires-clause-low
shared_body-requires-clause-low g c = low_last c.args.found.now.db c.args.found.now.labels c.requires.sound.group

pub shared_body-requires-clause-room : goal.shared_body-requires-clause-room
shared_body-requires-clause-room g c disk label at =
    let found = c.args.found.now in
    (clear_of found.db found.labels (sym c.requires.sound.blocked_is ∙ c.requires.unblocked)).large disk label (subst (λ (l : List Label). slice_get l disk ≡ Some label) c.as_slice-labels.ensures at)

pub body_of-requires-clause-low : goal.body_of-requires-clause-low
body_of-requires-clause-low g c = low_last c.args.found.now.db c.args.found.now.labels c.requires.sound.group

pub body_of-requires-clause-high : goal.body_of-requires-clause-high
body_of-requires-clause-high g c =
    let found = c.args.found.now in
    high_last found.db found.labels (g.H.Host.seen c.args.host.now).sizes c.requires.lies (sym c.requires.sound.blocked_is ∙ c.requires.unblocked)

pub returns-in-Ok-Some-clause-core : goal.returns-in-Ok-Some-clause-core
returns-in-Ok-Some-clause-core g c = some_keep c.in-Ok-Some.field-0 c.in-Ok-Some.body (IsCoreBody c.args.found.now.db) c.in-Ok-Some.field-0-is c.in-Ok-Some.ensures.core

pub returns-in-Ok-Some-clause-alone : goal.returns-in-Ok-Some-clause-alone
returns-in-Ok-Some-clause-alone g c tells is = absurd (true_not_false is)

pub returns-in-Ok-Some-clause-faultless : goal.returns-in-Ok-Some-clause-faultless
returns-in-Ok-Some-clause-faultless g c fault is = no_error _ _ is

pub returns-in-Ok-Some-clause-looks : goal.returns-in-Ok-Some-clause-looks
returns-in-Ok-Some-clause-looks g c = looks_as c.in-Ok-Some.ensures.looks (λ is. absurd (no_error _ _ is))

pub returns-in_ok-body_of-in-Ok-None-clause-shared : goal.returns-in_ok-body_of-in-Ok-None-clause-shared
returns-in_ok-body_of-in-Ok-None-clause-shared g c tells is = absurd (true_not_false (sym is))

pub returns-in_ok-body_of-in-Ok-None-clause-faultless : goal.returns-in_ok-body_of-in-Ok-None-clause-faultless
returns-in_ok-body_of-in-Ok-None-clause-faultless g c fault is = no_error _ _ is

pub returns-in_ok-body_of-in-Ok-None-clause-core : goal.returns-in_ok-body_of-in-Ok-None-clause-core
returns-in_ok-body_of-in-Ok-None-clause-core g c = (c.args.found.now.db, refl, c.in_ok-body_of-in-Ok-None.ensures.body)

pub returns-in_ok-body_of-in-Ok-None-clause-exact : goal.returns-in_ok-body_of-in-Ok-None-clause-exact
returns-in_ok-body_of-in-Ok-None-clause-exact g c tells = c.in_ok-body_of-in-Ok-None.ensures.body

pub returns-in_ok-body_of-in-Ok-None-clause-looks : goal.returns-in_ok-body_of-in-Ok-None-clause-looks
returns-in_ok-body_of-in-Ok-None-clause-looks g c = looks_as c.in-Ok-None.ensures.looks (λ is. absurd (no_error _ _ is))

pub returns-in-Ok-Some-clause-exact : goal.returns-in-Ok-Some-clause-exact
returns-in-Ok-Some-clause-exact g c tells =
    let a = g.H.Host.seen c.args.host.now in
    let found = c.args.found.now in
    let clear = sym c.requires.sound.blocked_is ∙ c.requires.unblocked in
    let body = c.in-Ok-Some.body in
    let core = some_keep c.in-Ok-Some.field-0 body (IsCoreBody found.db) c.in-Ok-Some.field-0-is c.in-Ok-Some.ensures.core in
    let keep = some_keep c.in-Ok-Some.field-0 body (λ b. AllKeep c.header.result.now.seq c.as_slice-labels.result.now c.as_slice.result.now found.db b a.content) c.in-Ok-Some.field-0-is (c.in-Ok-Some.ensures.keep tells) in
    is_exact found a.content (holds_group a.content found (c.requires.is tells)) (high_last found.db found.labels a.sizes c.requires.lies clear) (low_last found.db found.labels c.requires.sound.group)
    (room_all found.labels a c.requires.lies (g.met.H.Host.lengths tells c.args.host.now)) body core
    (keep_found found c.header.result.now c.as_slice-labels.result.now c.as_slice.result.now body a.content c.header.ensures c.as_slice-labels.ensures c.as_slice.ensures keep)

pub returns-in-Ok-Some-clause-shared : goal.returns-in-Ok-Some-clause-shared
returns-in-Ok-Some-clause-shared g c tells is =
    let a = g.H.Host.seen c.args.host.now in
    let found = c.args.found.now in
    let clear = sym c.requires.sound.blocked_is ∙ c.requires.unblocked in
    let body = c.in-Ok-Some.body in
    let core = some_keep c.in-Ok-Some.field-0 body (IsCoreBody found.db) c.in-Ok-Some.field-0-is c.in-Ok-Some.ensures.core in
    let keep = some_keep c.in-Ok-Some.field-0 body (λ b. AllKeep c.header.result.now.seq c.as_slice-labels.result.now c.as_slice.result.now found.db b a.content) c.in-Ok-Some.field-0-is (c.in-Ok-Some.ensures.keep tells) in
    all_begun found a.content (holds_group a.content found (c.requires.is tells)) (high_last found.db found.labels a.sizes c.requires.lies clear) (low_last found.db found.labels c.requires.sound.group)
    (room_all found.labels a c.requires.lies (g.met.H.Host.lengths tells c.args.host.now)) body core
    (keep_found found c.header.result.now c.as_slice-labels.result.now c.as_slice.result.now body a.content c.header.ensures c.as_slice-labels.ensures c.as_slice.ensures keep)

pub returns-in_ok-body_of-in-Ok-None-clause-alone : goal.returns-in_ok-body_of-in-Ok-None-clause-alone
returns-in_ok-body_of-in-Ok-None-clause-alone g c tells is =
    let a = g.H.Host.seen c.args.host.now in
    let found = c.args.found.now in
    let clear = sym c.requires.sound.blocked_is ∙ c.requires.unblocked in
    not_tidy found a.content (holds_group a.content found (c.requires.is tells)) (high_last found.db found.labels a.sizes c.requires.lies clear) (low_last found.db found.labels c.requires.sound.group)
    (room_all found.labels a c.requires.lies (g.met.H.Host.lengths tells c.args.host.now))
    (share_found found c.header.result.now c.as_slice-labels.result.now c.as_slice.result.now a.content c.header.ensures c.as_slice-labels.ensures c.as_slice.ensures
    (c.in-Ok-None.ensures.none tells c.in-Ok-None.field-0-is))
