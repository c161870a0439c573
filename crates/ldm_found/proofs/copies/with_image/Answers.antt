use Rattle.std.proofs.Common.{rules, ◌≡◌, ℕ, List, length, Ok, subst, arith}
use Rattle.ldm_host.specs.Seen.{image}
use Rattle.ldm_host.proofs.Relations.{looks_then}
use Rattle.ldm_found.specs.Copies.{IsCopyIn}
use Rattle.ldm_found.proofs.CopyLaws.{one_copy_each}
use Rattle.ldm_found.proofs.copies.with_image.Goals as goal

pub returns-in_err-copy-clause-looks : goal.returns-in_err-copy-clause-looks
returns-in_err-copy-clause-looks g c =
    looks_then c.note_alike.ensures.looks c.in_err-copy.ensures.looks (λ is. search rules)

pub returns-clause-is : goal.returns-clause-is
returns-clause-is g c tells copies all is =
    let content = (g.H.Host.seen c.args.host.now).content in
    let one_each : length content ≡ length c.args.labels.now = omega (arith, g.met.H.Host.one_each tells c.args.host.now, c.requires.lie.one_label) in
    let at : length copies ≡ c.args.disk = one_copy_each c.args.labels.now content c.args.disk copies (omega arith) one_each all in
    let here = subst (λ (l : List (List ℕ)). IsCopyIn (c.args.label.now, image l c.args.disk) (Ok c.in_ok-copy.copy)) c.note_alike.ensures.looks.still.content (c.in_ok-copy.ensures.is tells) in
    (c.in_ok-copy.copy, here, c.with_copy.ensures.is copies at is, c.note_of-note.ensures)

pub returns-clause-looks : goal.returns-clause-looks
returns-clause-looks g c = looks_then c.note_alike.ensures.looks c.copy_at.ensures.looks (λ is. absurd (cc is))
