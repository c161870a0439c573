use Rattle.std.proofs.Common.{◌≡◌, ⊎_elim, ℕ, List, length, slice_get, slice_index, get_or, Some, false, Err, sym, ◌∙◌, ap, subst, arith}
use Rattle.std.proofs.lemmas.Bool.{cases_eq}
use Rattle.std.proofs.lemmas.Option.{slice_get-get_or}
use Rattle.ldm_host.specs.Seen.{image}
use Rattle.ldm_host.proofs.Relations.{looks_itself, looks_then, looks_as}
use Rattle.ldm_label.specs.declared.Label.{Label}
use Rattle.ldm_label.specs.LabelOf.{Fits}
use Rattle.ldm_group.specs.Database.{Database}
use Rattle.ldm_copy.specs.declared.notes.Note.{Note}
use Rattle.ldm_copy.specs.declared.notes.Note.TheVariants as notes
use Rattle.ldm_store.specs.Healing.{is_behind}
use Rattle.ldm_body.specs.Table.{body_bytes}
use Rattle.ldm_store.specs.Bodies.{LacksBody, KeepsBody}
use Rattle.ldm_store.proofs.CopyLaws.{no_label}
use Rattle.ldm_store.proofs.ResultLaws.{fails, same_error, no_error, true_not_false}
use Rattle.ldm_store.proofs.sharing.all_have.Goals as goal
use Rattle.ldm_bytes.proofs.NumberLaws.{some_is}

keeps_here : (seq : ℕ) (labels : List Label) (list : List Note) (db : Database) (body : List ℕ) (images now : List (List ℕ)) (disk : ℕ) (label' : Label) (note' : Note)
    → slice_get labels disk ≡ Some label' → slice_get list disk ≡ Some note' → now ≡ images → (is_behind seq note' ≡ false → body ≡ body_bytes db label' (image now disk))
    → KeepsBody seq labels list db body images disk
keeps_here seq labels list db body images now disk label' note' at noted e f label note at' noted' ahead =
    let l : label' ≡ label = some_is label' label (sym at ∙ at') in
    let n : note' ≡ note = some_is note' note (sym noted ∙ noted') in
    subst (λ (x : Label). body ≡ body_bytes db x (image images disk)) l
    (subst (λ (i : List (List ℕ)). body ≡ body_bytes db label' (image i disk)) e (f (subst (λ (x : Note). is_behind seq x ≡ false) (sym n) ahead)))

pub loop-disk-init : goal.loop-disk-init
loop-disk-init g c = record {
  looks = looks_itself (g.H.Host.seen c.args.host.now) (g.met.H.Host.counts_now c.args.host.now) (g.met.H.Host.only_now c.args.host.now);
  keeps = λ tells k lt. absurd (omega (arith, lt));
}

pub keeps_body-requires : goal.keeps_body-requires
keeps_body-requires g c =
    let disk = c.loop-disk.disk in
    let sizes = c.loop-disk.invariant.looks.still.later.sizes in
    let at = slice_get-get_or c.args.labels.now disk no_label c.loop-disk-test.true in
    record {
      disk = omega (arith, c.loop-disk-test.true, ap length sizes, c.requires.lie.one_label);
      fits = subst (λ (l : List ℕ). Fits (get_or c.args.labels.now disk no_label) (slice_index l disk)) (sym sizes) (c.requires.lie.fits disk _ at);
      low = c.requires.low;
      room = c.requires.room disk _ at;
    }

pub returns-in_err-keeps_body : goal.returns-in_err-keeps_body
returns-in_err-keeps_body g c =
    let handed = c.from_residual.ensures.1 in
    record {
      yes = λ tells. fails c.from_residual.result _ _ handed;
      no = λ tells. fails c.from_residual.result _ _ handed;
      looks = looks_then c.loop-disk.invariant.looks c.in_err-keeps_body.ensures.looks (λ is. ap Err (same_error c.from_residual.result _ _ handed is));
    }

pub returns-then-not-branch-clause-yes : goal.returns-then-not-branch-clause-yes
returns-then-not-branch-clause-yes g c tells all disk lt = absurd (true_not_false (sym all))

pub returns-then-not-branch-clause-looks : goal.returns-then-not-branch-clause-looks
returns-then-not-branch-clause-looks g c = looks_then c.loop-disk.invariant.looks c.in_ok-keeps_body.ensures.looks (λ is. absurd (no_error _ _ is))

pub returns : goal.returns
returns g c =
    let i = c.loop-disk.invariant in
    record {
      yes = λ tells all disk lt. i.keeps tells disk (omega (arith, lt, c.loop-disk-test.false));
      no = λ tells is. absurd (true_not_false is);
      looks = looks_as i.looks (λ is. absurd (no_error _ _ is));
    }

pub returns-then-not-branch-clause-no : goal.returns-then-not-branch-clause-no
returns-then-not-branch-clause-no g c tells same =
    let disk = c.loop-disk.disk in
    let label = get_or c.args.labels.now disk no_label in
    let note = get_or c.args.notes.now disk notes.Closed in
    let no = c.in_ok-keeps_body.ensures.no tells c.if-not-branch.true in
    record {
      disk = disk;
      label = label;
      note = note;
      label_is = slice_get-get_or c.args.labels.now disk no_label c.loop-disk-test.true;
      note_is = slice_get-get_or c.args.notes.now disk notes.Closed (omega (arith, c.loop-disk-test.true, c.requires.one_note));
      ahead = no.0;
      lacks = subst (λ (i : List (List ℕ)). LacksBody c.args.db.now label c.args.body.now (image i disk)) c.loop-disk.invariant.looks.still.content no.1;
    }

pub loop-disk-preserved : goal.loop-disk-preserved
loop-disk-preserved g c =
    let start = g.H.Host.seen c.args.host.now in
    let before = g.H.Host.seen c.loop-disk.host in
    let disk = c.loop-disk.disk in
    let i = c.loop-disk.invariant in
    record {
      looks = looks_then i.looks c.in_ok-keeps_body.ensures.looks (λ is. absurd is);
      keeps = λ tells k lt. ⊎_elim
          (λ same. subst (λ (d : ℕ). KeepsBody c.args.seq c.args.labels.now c.args.notes.now c.args.db.now c.args.body.now start.content d) (sym same)
          (keeps_here c.args.seq c.args.labels.now c.args.notes.now c.args.db.now c.args.body.now start.content before.content disk (get_or c.args.labels.now disk no_label)
          (get_or c.args.notes.now disk notes.Closed) (slice_get-get_or c.args.labels.now disk no_label c.loop-disk-test.true)
          (slice_get-get_or c.args.notes.now disk notes.Closed (omega (arith, c.loop-disk-test.true, c.requires.one_note))) i.looks.still.content
          (c.in_ok-keeps_body.ensures.yes tells c.if-not-branch.false)))
          (λ ne. i.keeps tells k (omega (arith, lt, ne)))
          (cases_eq k disk);
    }
