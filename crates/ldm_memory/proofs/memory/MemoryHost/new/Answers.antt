use Rattle.std.proofs.Common.{rules, ◌≡◌, ℕ, length}
use Rattle.std.proofs.lemmas.List.{length-replicate}
use Rattle.ldm_bytes.specs.Numbers.{IsBytes}
use Rattle.ldm_host.specs.Images.{items_of}
use Rattle.ldm_host.specs.Seen.{image}
use Rattle.ldm_memory.proofs.HeldLaws.{fresh_kept, fresh_settled}
use Rattle.ldm_memory.proofs.memory.MemoryHost.new.Goals as goal

pub invariant_of-result : goal.invariant_of-result
invariant_of-result c =
    let sized : length c.in-Ok-zeros.handed.items ≡ length c.args.images.items = search (rules, length-replicate) in
    let bytes : (disk : ℕ) → IsBytes (image (items_of c.in-Ok.first.items) disk) = c.in-Ok.ensures.bytes in
    record { kept = fresh_kept (items_of c.in-Ok.first.items) c.new.result.items c.args.script.items c.args.images.items c.new-2.result.items c.in-Ok-zeros.handed.items (search rules) (search rules) (search rules) sized bytes }

pub returns-in-Ok-zeros-clause-settled : goal.returns-in-Ok-zeros-clause-settled
returns-in-Ok-zeros-clause-settled c = fresh_settled (items_of c.in-Ok.first.items) c.new.result.items (search rules)
