use Rattle.std.proofs.Common.{◌≡◌, ◌++◌, ◌∙◌, List, ap, sym, arith}
use Rattle.ldm_frags.specs.declared.faults.Joined.{Joined}
use Rattle.ldm_frags.specs.Blocks.{count}
use Rattle.ldm_frags.specs.Faults.{missing_fault}
use Rattle.ldm_frags.specs.Joins.{entry, entries}
use Rattle.ldm_frags.specs.Kept.{blocks_of}
use Rattle.ldm_frags.proofs.Below.{faultless_below}
use Rattle.ldm_frags.proofs.JoinLaws.{entries_none, entries_more}
use Rattle.ldm_frags.proofs.KeptLaws.{count_of}
use Rattle.ldm_frags.proofs.joining.all_entries.Goals as goal

pub loop-k-init : goal.loop-k-init
loop-k-init c = c.new-out.ensures.items ∙ sym (entries_none (blocks_of c.args.pieces.now))

pub loop-k-preserved : goal.loop-k-preserved
loop-k-preserved c =
    let blocks = blocks_of c.args.pieces.now in
    c.in_ok-push_entry.ensures
    ∙ ap (λ (x : List Joined). x ++ entry blocks c.loop-k.k) c.loop-k.invariant
    ∙ sym (entries_more blocks c.loop-k.k)

pub push_entry-requires-clause-complete : goal.push_entry-requires-clause-complete
push_entry-requires-clause-complete c =
    let blocks = blocks_of c.args.pieces.now in
    faultless_below (count blocks) c.loop-k.k (missing_fault blocks) c.requires.complete (omega (arith, count_of c.args.pieces.now))

pub returns : goal.returns
returns c =
    let blocks = blocks_of c.args.pieces.now in
    let end : c.loop-k.k ≡ count blocks = omega (arith, count_of c.args.pieces.now) in
    c.loop-k.invariant ∙ ap (entries blocks) end
