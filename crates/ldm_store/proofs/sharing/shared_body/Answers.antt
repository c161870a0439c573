use Rattle.std.proofs.Common.{◌≡◌, inl, inr, ℕ, List, length, slice_get, get_or, Option, Some, None, Err, IfSome, sym, ap, subst, arith}
use Rattle.std.proofs.lemmas.Option.{slice_get-get_or, slice_get_within}
use Rattle.ldm_host.specs.Seen.{image}
use Rattle.ldm_host.proofs.Relations.{looks_itself, looks_then, looks_as}
use Rattle.ldm_label.specs.declared.Label.{Label}
use Rattle.ldm_body.specs.Table.{body_bytes, IsCoreBody}
use Rattle.ldm_copy.specs.declared.notes.Note.{Note}
use Rattle.ldm_found.specs.Facts.{LieOn}
use Rattle.ldm_store.specs.Bodies.{KeepsBody, LosesBody}
use Rattle.ldm_store.proofs.CopyLaws.{no_label}
use Rattle.ldm_store.proofs.ResultLaws.{fails, same_error, no_error}
use Rattle.ldm_store.proofs.sharing.shared_body.Goals as goal

is_of : (found : Option (List ℕ)) (body bytes : List ℕ) → found ≡ Some body → IfSome found (λ b. b ≡ bytes) → body ≡ bytes
is_of found body bytes is same = subst (λ (o : Option (List ℕ)). IfSome o (λ b. b ≡ bytes)) is same

no_none : {A : Type 0} (value : A) → Some value ≡ None → ⊥
no_none value is = cc is

-- the label of a disk that has a note
label_at : (labels : List Label) (list : List Note) (disk : ℕ) (note : Note) → length list ≡ length labels → slice_get list disk ≡ Some note → slice_get labels disk ≡ Some (get_or labels disk no_label)
label_at labels list disk note one_note noted = slice_get-get_or labels disk no_label (omega (arith, slice_get_within list disk note noted, one_note))

pub read_body-requires : goal.read_body-requires
read_body-requires g c =
    let first = c.in-Some.first in
    let ahead = c.first_ahead.ensures.found first c.in-Some.is in
    let at = label_at c.args.labels.now c.args.notes.now first ahead.0 c.requires.one_note ahead.1 in
    record {
      disk = omega (arith, slice_get_within c.args.notes.now first ahead.0 ahead.1, c.requires.one_note, c.requires.lie.one_label);
      fits = c.requires.lie.fits first _ at;
      low = c.requires.low;
      room = c.requires.room first _ at;
    }

pub all_have-requires : goal.all_have-requires
all_have-requires g c = record {
  lie = subst (λ (l : List ℕ). LieOn c.args.labels.now l) (sym c.read_body.ensures.looks.still.later.sizes) c.requires.lie;
  one_note = c.requires.one_note;
  low = c.requires.low;
  room = c.requires.room;
}

pub returns-in_default : goal.returns-in_default
returns-in_default g c = record {
  core = tt;
  keep = λ tells. tt;
  none = λ tells is. inl (c.first_ahead.ensures.none c.in_default.is);
  looks = looks_as (looks_itself (g.H.Host.seen c.args.host.now) (g.met.H.Host.counts_now c.args.host.now) (g.met.H.Host.only_now c.args.host.now)) (λ is. absurd (no_error _ _ is));
}

pub returns-in_err-body : goal.returns-in_err-body
returns-in_err-body g c =
    let handed = c.from_residual.ensures.1 in
    record {
      core = fails c.from_residual.result _ _ handed;
      keep = λ tells. fails c.from_residual.result _ _ handed;
      none = λ tells. fails c.from_residual.result _ _ handed;
      looks = looks_as c.in_err-body.ensures.looks (λ is. ap Err (same_error c.from_residual.result _ _ handed is));
    }

pub returns-in_err-all_have : goal.returns-in_err-all_have
returns-in_err-all_have g c =
    let result = c.from_residual-in_err-all_have.result in
    let handed = c.from_residual-in_err-all_have.ensures.1 in
    record {
      core = fails result _ _ handed;
      keep = λ tells. fails result _ _ handed;
      none = λ tells. fails result _ _ handed;
      looks = looks_then c.read_body.ensures.looks c.in_err-all_have.ensures.looks (λ is. ap Err (same_error result _ _ handed is));
    }

pub returns-in_default-2-clause-core : goal.returns-in_default-2-clause-core
returns-in_default-2-clause-core g c = tt

pub returns-in_default-2-clause-keep : goal.returns-in_default-2-clause-keep
returns-in_default-2-clause-keep g c tells = tt

pub returns-in_default-2-clause-looks : goal.returns-in_default-2-clause-looks
returns-in_default-2-clause-looks g c = looks_as c.in_ok-body.ensures.looks (λ is. absurd (no_error _ _ is))

pub returns-in_default-2-clause-none : goal.returns-in_default-2-clause-none
returns-in_default-2-clause-none g c tells none =
    let first = c.in-Some.first in
    let ahead = c.first_ahead.ensures.found first c.in-Some.is in
    let at = label_at c.args.labels.now c.args.notes.now first ahead.0 c.requires.one_note ahead.1 in
    inr (record {
      first = first;
      label = get_or c.args.labels.now first no_label;
      note = ahead.0;
      label_is = at;
      note_is = ahead.1;
      ahead = ahead.2;
      loses = record {
        disk = first;
        label = get_or c.args.labels.now first no_label;
        note = ahead.0;
        label_is = at;
        note_is = ahead.1;
        ahead = ahead.2;
        lacks = inl (c.in_ok-body.ensures.none tells c.in_default-2.is);
      };
    })

pub returns-then-not-branch-clause-none : goal.returns-then-not-branch-clause-none
returns-then-not-branch-clause-none g c tells none =
    let seen = g.H.Host.seen in
    let first = c.in-Some.first in
    let label = get_or c.args.labels.now first no_label in
    let ahead = c.first_ahead.ensures.found first c.in-Some.is in
    let at = label_at c.args.labels.now c.args.notes.now first ahead.0 c.requires.one_note ahead.1 in
    let bytes = body_bytes c.args.db.now label (image (seen c.args.host.now).content first) in
    let same = is_of c.in_ok-body.field-0 c.in-Some-2.body bytes c.in-Some-2.is (c.in_ok-body.ensures.same tells) in
    let loses = subst (λ (images : List (List ℕ)). LosesBody c.args.seq c.args.labels.now c.args.notes.now c.args.db.now c.in-Some-2.body images) c.read_body.ensures.looks.still.content
    (c.in_ok-all_have.ensures.no tells c.if-not-branch.true) in
    inr (record {
      first = first;
      label = label;
      note = ahead.0;
      label_is = at;
      note_is = ahead.1;
      ahead = ahead.2;
      loses = subst (λ (b : List ℕ). LosesBody c.args.seq c.args.labels.now c.args.notes.now c.args.db.now b (seen c.args.host.now).content) same loses;
    })

pub returns-clause-keep : goal.returns-clause-keep
returns-clause-keep g c tells disk lt =
    subst (λ (images : List (List ℕ)). KeepsBody c.args.seq c.args.labels.now c.args.notes.now c.args.db.now c.in-Some-2.body images disk) c.read_body.ensures.looks.still.content
    (c.in_ok-all_have.ensures.yes tells c.if-not-branch.false disk lt)

pub returns-then-not-branch-clause-looks : goal.returns-then-not-branch-clause-looks
returns-then-not-branch-clause-looks g c = looks_then c.read_body.ensures.looks c.all_have.ensures.looks (λ is. absurd (no_error _ _ is))

pub returns-then-not-branch-clause-core : goal.returns-then-not-branch-clause-core
returns-then-not-branch-clause-core g c = tt

pub returns-then-not-branch-clause-keep : goal.returns-then-not-branch-clause-keep
returns-then-not-branch-clause-keep g c tells = tt

pub returns-clause-core : goal.returns-clause-core
returns-clause-core g c = subst (λ (o : Option (List ℕ)). IfSome o (IsCoreBody c.args.db.now)) c.in-Some-2.is c.in_ok-body.ensures.core

pub returns-clause-none : goal.returns-clause-none
returns-clause-none g c tells none = absurd (no_none _ none)

pub returns-clause-looks : goal.returns-clause-looks
returns-clause-looks g c = looks_then c.read_body.ensures.looks c.all_have.ensures.looks (λ is. absurd (no_error _ _ is))
