use Rattle.std.proofs.Common.{◌<◌, ◌-◌, ◌^◌, ◌∙◌, arith, ap, sym, option_copied}
use Rattle.ldm_edits.proofs.batching.commit.Goals as goal

pub overflow_add-seq : goal.overflow_add-seq
overflow_add-seq c =
    let low : c.args.seq < 2 ^ 64 - 1 = c.requires c.in-Some.draft.now (ap option_copied c.in-Some.is)
    (sym c.filled.ensures ∙ c.if-not-filled.false) in
    omega arith
