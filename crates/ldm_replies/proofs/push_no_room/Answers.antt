use Rattle.std.proofs.Common.{◌∙◌, ℕ, List, ◌++◌, ap, append_assoc, codes}
use Rattle.std.specs.Fmt.{decimal}
use Rattle.std.proofs.lemmas.Result.{IfOk-equal}
use Rattle.ldm_edits.specs.declared.reply.Refusal.TheVariants.{NoRoom}
use Rattle.ldm_replies.specs.Reply.{text_of_reason}
use Rattle.ldm_replies.proofs.push_no_room.Goals as goal

pub returns : goal.returns
returns c =
    let needed = codes "no room: need " ++ decimal c.args.need in
    let had = codes " have " ++ decimal c.args.have in
    IfOk-equal c.push_number-2.result c.push_number-2.new.text (c.push_number.new.text ++ had) (c.args.text.now ++ text_of_reason (NoRoom c.args.need c.args.have)) c.push_number-2.ensures
    (ap (λ (t : List ℕ). t ++ had) c.in_ok-push_number.ensures ∙ append_assoc c.args.text.now needed had)
