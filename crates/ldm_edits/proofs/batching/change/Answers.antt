use Rattle.std.proofs.Common.{ap, option_copied}
use Rattle.ldm_edits.specs.Steps.{IsDraftOf, next_of}
use Rattle.ldm_edits.proofs.BatchLaws.{held_kept}
use Rattle.ldm_edits.proofs.batching.change.Goals as goal

pub step_from-requires-clause-sound : goal.step_from-requires-clause-sound
step_from-requires-clause-sound c = (c.requires.draft c.in-Some.draft.now (ap option_copied c.in-Some.is)).sound

pub hold-requires : goal.hold-requires
hold-requires c next is = (c.in_ok-outcome-in-Some.ensures.keeps next is).sound.room.each

pub returns-in_ok-outcome-in-Some-clause-keeps : goal.returns-in_ok-outcome-in-Some-clause-keeps
returns-in_ok-outcome-in-Some-clause-keeps c =
    let of : IsDraftOf c.args.labels.now c.args.db.now c.in-Some.draft.now = c.requires.draft c.in-Some.draft.now (ap option_copied c.in-Some.is) in
    let step = next_of c.in-Some.draft.now.db c.args.labels.now c.args.command.now in
    held_kept c.args.labels.now c.args.db.now c.in-Some.draft.now c.in_ok-outcome-in-Some.outcome step c.seq_of.result c.hold.result of c.in_ok-outcome-in-Some.ensures.is
    c.in_ok-outcome-in-Some.ensures.keeps c.hold.ensures.low c.seq_of.ensures.is c.hold.ensures.is
