-- The JSON of a reply by its parts, and that each reply is one line.
use Rattle.std.proofs.Common.{refl, ◌≡◌, ◌∙◌, ℕ, List, [], ◌∷◌, ◌++◌, codes, Option, ap}
use Rattle.json.specs.Json.{Json, string}
use Rattle.json.specs.Token.{Token}
use Rattle.json.specs.Tree.{json_tokens}
use Rattle.ldm_json.specs.Values.{number_json, maybe_json, json_object}
use Rattle.ldm_edits.specs.declared.reply.Reply.{Reply}
use Rattle.ldm_replies.specs.ReplyJson.{reply_word, reply_reason, reply_sequence, reply_json}

pub reply_is : (line : ℕ) (reply : Reply) (word : List ℕ) (reason : Json) (seq : Option ℕ) → word ≡ reply_word reply → reason ≡ reply_reason reply → seq ≡ reply_sequence reply
    → json_object ((codes "line", number_json line) ∷ (codes "result", string word) ∷ (codes "reason", reason) ∷ (codes "sequence", maybe_json seq) ∷ []) ≡ reply_json (line, reply)
reply_is line reply word reason seq w r s = rw (w, r, s) refl

-- tokens that are put behind none
pub alone : (one two op : List Token) (j : Json) → one ≡ [] → two ≡ one ++ op → op ≡ json_tokens j → two ≡ json_tokens j
alone one two op j a b is = b ∙ ap (λ (ts : List Token). ts ++ op) a ∙ is
