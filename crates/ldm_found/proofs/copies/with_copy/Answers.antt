use Rattle.std.proofs.Common.{◌≡◌, ◌+◌, ◌∷◌, [], ◌++◌, Some, refl, sym, ap, subst, ◌∙◌, arith}
use Rattle.std.proofs.lemmas.Bool.{false≢true}
use Rattle.ldm_vmdb.specs.declared.header.Header.{Header}
use Rattle.ldm_copy.specs.declared.answer.CopyState.{CopyState}
use Rattle.ldm_copy.specs.declared.answer.CopyState.TheVariants.{Valid}
use Rattle.ldm_found.specs.declared.copies.Newest.{Newest}
use Rattle.ldm_found.specs.Steps.{IsNewestOf, IsAmong}
use Rattle.ldm_found.proofs.CopyLaws.{among_more, with_closed, with_first, with_newer, with_older, with_other, no_other, has_other}
use Rattle.ldm_found.proofs.copies.with_copy.Goals as goal
use Rattle.ldm_found.proofs.copies.with_copy.Goals.{then-same_seq+then-is_none+then-not-same_core, else-same_seq, else-same_seq-via-then-same_seq+then-is_none+else-not-same_core, else-same_seq-via-then-same_seq+else-is_none, else-same_seq-via-else-same_seq}

pub returns-in_default-clause-is : goal.returns-in_default-clause-is
returns-in_default-clause-is c copies at before = subst (λ (x : CopyState). IsNewestOf (copies ++ x ∷ []) c.args.newest) (sym c.in_default.is) (with_closed copies c.args.newest before)

pub returns-in_default-newest-clause-is : goal.returns-in_default-newest-clause-is
returns-in_default-newest-clause-is c copies at before =
    let none = rw c.in_default-newest.is at before in
    rw c.in-Valid.is (with_first copies c.in-Valid.db c.args.image at none)

pub returns-then-header-clause-is : goal.returns-then-header-clause-is
returns-then-header-clause-is c copies at before =
    let some = rw c.in-Some.is at before in
    let less = rw (c.header.ensures, c.header-2.ensures) at c.if-header.true in
    rw c.in-Valid.is (with_newer copies c.in-Some.newest c.in-Valid.db c.args.image at some less)

pub returns-clause-is : goal.returns-clause-is
returns-clause-is c copies at before =
    let some = rw c.in-Some.is at before in
    let le = rw (c.header.ensures, c.header-2.ensures) at c.if-header.false in
    let with = λ (n : Newest) (is : c.if-same_seq.newest ≡ n) (newest : IsNewestOf (copies ++ Valid c.in-Valid.db ∷ []) (Some n)).
    subst (λ (m : Newest). IsNewestOf (copies ++ c.args.copy ∷ []) (Some m)) (sym is)
    (subst (λ (x : CopyState). IsNewestOf (copies ++ x ∷ []) (Some n)) (sym c.in-Valid.is) newest) in
    elim c.if-same_seq.branch [
      | then-same_seq+then-is_none+then-not-same_core w ↦
          let seq : c.in-Valid.db.header.seq ≡ c.in-Some.newest.db.header.seq =
          sym (ap (λ (h : Header). h.seq) c.header-4.ensures) ∙ sym w.if-same_seq.true ∙ ap (λ (h : Header). h.seq) c.header-3.ensures in
          with (record c.in-Some.newest { other = Some c.args.image }) w.newest-is
          (with_other copies c.in-Some.newest c.in-Valid.db c.args.image at some le (no_other c.in-Some.newest.other w.if-is_none.ensures)
          (seq, λ same. false≢true (w.if-not-same_core.ensures.1 same)))
      | else-same_seq w ↦ elim w.else-same_seq.branch [
        | else-same_seq-via-then-same_seq+then-is_none+else-not-same_core w' ↦
            with c.in-Some.newest w.newest-is (with_older copies c.in-Some.newest c.in-Valid.db some le (λ none differs. differs.1 (w'.if-not-same_core.ensures.0 refl)))
        | else-same_seq-via-then-same_seq+else-is_none w' ↦
            with c.in-Some.newest w.newest-is (with_older copies c.in-Some.newest c.in-Valid.db some le (λ none differs. has_other c.in-Some.newest.other w'.if-is_none.ensures none))
        | else-same_seq-via-else-same_seq w' ↦
            with c.in-Some.newest w.newest-is (with_older copies c.in-Some.newest c.in-Valid.db some le (λ none differs.
            w'.if-same_seq.false (ap (λ (h : Header). h.seq) c.header-3.ensures ∙ sym differs.0 ∙ sym (ap (λ (h : Header). h.seq) c.header-4.ensures))))
      ]
    ]

pub returns-in_default-clause-room : goal.returns-in_default-clause-room
returns-in_default-clause-room c = among_more c.args.newest c.args.image c.requires.newest

pub returns-clause-room : goal.returns-clause-room
returns-clause-room c =
    let among = rw c.in-Some.is at c.requires.newest in
    let with = λ (n : Newest) (is : c.if-same_seq.newest ≡ n) (room : IsAmong (c.args.image + 1) n). subst (λ (m : Newest). IsAmong (c.args.image + 1) m) (sym is) room in
    elim c.if-same_seq.branch [
      | then-same_seq+then-is_none+then-not-same_core w ↦ with (record c.in-Some.newest { other = Some c.args.image }) w.newest-is (record { within = omega (arith, among.within); room = among.room })
      | else-same_seq w ↦ with c.in-Some.newest w.newest-is (record { within = omega (arith, among.within); room = among.room })
    ]
