use Rattle.std.proofs.Common.{◌≡◌, ◌++◌, List, IfOk, ap, subst}
use Rattle.std.specs.Prelude.{codes}
use Rattle.json.specs.Token.{Token}
use Rattle.json.specs.Tree.{json_tokens}
use Rattle.json.specs.Print.{print}
use Rattle.ldm_json.specs.Values.{json_of}
use Rattle.ldm_replies.specs.ReplyJson.{reply_json}
use Rattle.ldm_replies.proofs.ReplyLaws.{alone, reply_is}
use Rattle.ldm_replies.proofs.reply_json.line_with.Goals as goal

pub returns : goal.returns
returns c =
    subst (λ (ts : List Token). IfOk c.into_line.result (λ text. text ≡ print ts ++ codes "\n"))
    (alone c.new-json.result c.object.new.self _ (reply_json (c.args.line, c.args.reply.now)) c.new-json.ensures c.in_ok-object.ensures
    (ap json_tokens (reply_is c.args.line c.args.reply.now c.reply_word.result.now (json_of c.args.reason) c.reply_sequence.result c.reply_word.ensures c.requires c.reply_sequence.ensures)))
    c.into_line.ensures
