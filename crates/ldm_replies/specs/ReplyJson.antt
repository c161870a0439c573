-- The JSON of the replies to the lines of a script, a value for each, and what is said of replies in each format.
use Rattle.std.specs.Prelude.{ℕ, List, [], ◌∷◌, flat_map, codes, Option, Some, None}
use Rattle.std.specs.List.{enumerate_from}
use Rattle.json.specs.Json.{Json, null, string}
use Rattle.ldm_json.specs.Values.{number_json, maybe_json, said_json, json_object, line_of_json}
use Rattle.ldm_words.specs.declared.job.Format.{Format}
use Rattle.ldm_words.specs.declared.job.Format.TheVariants as formats
use Rattle.ldm_edits.specs.declared.reply.Reply.{Reply}
use Rattle.ldm_edits.specs.declared.reply.Reply.TheVariants.{Done, Held, Dropped, Refused}
use Rattle.ldm_replies.specs.Reply.{text_of_reason, text_of_reply}

abbrev pub reply_word : Reply → List ℕ
reply_word (Done seq) = codes "ok"
reply_word Held = codes "held"
reply_word Dropped = codes "dropped"
reply_word (Refused refusal) = codes "refused"

-- why the line is refused, or null
abbrev pub reply_reason : Reply → Json
reply_reason (Refused refusal) = said_json (text_of_reason refusal)
reply_reason reply = null

-- the sequence of the group after a line that is done
abbrev pub reply_sequence : Reply → Option ℕ
reply_sequence (Done seq) = Some seq
reply_sequence reply = None

-- the reply to the line of this number
abbrev pub reply_json : ℕ × Reply → Json
reply_json (line, reply) =
    json_object (
    (codes "line", number_json line)
    ∷ (codes "result", string (reply_word reply))
    ∷ (codes "reason", reply_reason reply)
    ∷ (codes "sequence", maybe_json (reply_sequence reply))
    ∷ [])

-- what is said of it
abbrev pub said_reply : Format → ℕ × Reply → List ℕ
said_reply formats.Lines reply = text_of_reply reply
said_reply (formats.Json paths) reply = line_of_json (reply_json reply)

-- what is said of the replies to lines one after another, the first of which has this number
abbrev pub said_replies : Format → ℕ → List Reply → List ℕ
said_replies format first replies = flat_map (said_reply format) (enumerate_from first replies)
