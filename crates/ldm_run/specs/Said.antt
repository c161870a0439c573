-- What is said of the reply to a line.
use Rattle.std.specs.Prelude.{ℕ, ◌++◌}
use Rattle.ldm_host.specs.Seen.{Seen}
use Rattle.ldm_host.specs.Moves.{Begins, SameInput, Still}
use Rattle.ldm_edits.specs.declared.reply.Reply.{Reply}
use Rattle.ldm_words.specs.declared.job.Format.{Format}
use Rattle.ldm_replies.specs.ReplyJson.{said_reply}

-- What is done where a reply is said: a part of it was said, or all.
pub record SaysReply (format : Format) (number : ℕ) (reply : Reply) (old new : Seen) : Type 0 where
  pub front : Begins new.said (old.said ++ said_reply format (number, reply))
  pub still : Still old new
  pub input : SameInput old new
