use Rattle.std.proofs.Common.{rules, ◌≡◌, List, Ok, subst, sym}
use Rattle.ldm_label.specs.declared.counting.GoodCopies.{GoodCopies}
use Rattle.ldm_look.specs.Looks.{AreCounted}
use Rattle.ldm_look.proofs.EndLaws.{says_first}
use Rattle.ldm_past.specs.PastAnswer.{said_past_check, past_check_answer}
use Rattle.ldm_past.proofs.TextLaws.{counted_past}
use Rattle.ldm_past.proofs.checking.check_past.Goals as goal

pub returns-in-Err : goal.returns-in-Err
returns-in-Err g c = c.in-Err.ensures.fault (past_check_answer c.args.format.now c.args.damages.now (g.H.Host.seen c.args.host.now).content)

pub returns-in-Ok : goal.returns-in-Ok
returns-in-Ok g c =
    let content = (g.H.Host.seen c.args.host.now).content in
    let goods = c.as_slice.result.now in
    let same : goods ≡ c.in-Ok.goods.items = search rules in
    says_first (c.say_made.ensures.says (said_past_check c.args.format.now c.args.damages.now goods c.in-Ok.found) c.said_past_check-text.ensures) c.in-Ok.ensures.looks
    g.met.H.Host.tells_both
    (λ tells answer e. (
      Ok c.in-Ok.found,
      c.in-Ok.ensures.found tells,
      counted_past c.args.format.now c.args.damages.now content goods c.in-Ok.found answer
          (subst (λ (l : List GoodCopies). AreCounted c.args.format.now content c.in-Ok.found.labels l) (sym same) (c.in-Ok.ensures.counted tells)) e,
    ))
