use Rattle.std.proofs.Common.{◌≡◌, ℕ, ◌+◌, ◌++◌, ◌≤◌, List, Some, length, length-append, decimal, ◌∙◌, sym, subst, arith}
use Rattle.std.specs.Prelude.{IfOk, codes}
use Rattle.std.proofs.lemmas.Fmt.{length-decimal-le}
use Rattle.ldm_made.specs.Made.{new_disk}
use Rattle.ldm_init.proofs.database.disk_record.Goals as goal

pub new_disk-requires : goal.new_disk-requires
new_disk-requires c =
    let text : c.as_bytes.result.now ≡ codes "Disk" ++ decimal (c.args.place + 1) = c.as_bytes.ensures.value ∙ (c.in_ok-name.ensures {u = tt}).ok in
    let digits = length-decimal-le 2 (c.args.place + 1) (omega arith) (omega (arith, c.requires)) (omega (arith, c.requires)) in
    subst (λ (l : List ℕ). length l ≤ 255) (sym text) (omega (arith, digits, length-append (codes "Disk") (decimal (c.args.place + 1))))

pub returns : goal.returns
returns c =
    let text : c.as_bytes.result.now ≡ codes "Disk" ++ decimal (c.args.place + 1) = c.as_bytes.ensures.value ∙ (c.in_ok-name.ensures {u = tt}).ok in
    subst (λ (l : List ℕ). IfOk c.new_disk.result (λ r. new_disk (c.args.place + 2) l c.args.guid ≡ Some r)) text c.new_disk.ensures
