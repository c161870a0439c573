use Rattle.std.proofs.Common.{rules, ◌≡◌, ℕ, List, ◌∷◌, map, sym, ap, ◌∙◌, arith, Option}
use Rattle.ldm_words.specs.declared.command.Command.{Command}
use Rattle.ldm_lines.specs.Lines.{lines_of}
use Rattle.ldm_run.specs.Scripts.{command_in, commands_in}
use Rattle.ldm_run.proofs.EditLaws.{now_of, edited_none, with_left, unread, ended, line_fails, line_done}
use Rattle.ldm_run.proofs.editing.edit_each.Goals as goal

pub editing-init : goal.editing-init
editing-init g c =
    let host = c.args.host.now in
    let session = c.args.first in
    let now = now_of g.H.Host.seen g.met.H.Host.counts_now g.met.H.Host.only_now g.met.H.Host.one_each g.met.H.Host.may_stay host in
    record {
      few = omega arith;
      to = edited_none session (commands_in c.args.script.now) (g.H.Host.seen host) c.requires.fresh (search rules)
          c.requires.rests c.requires.holds now;
    }

-- what the first line says, and those after it
first_said : (rest front after : List ℕ) (line : Option Command) → lines_of rest ≡ front ∷ lines_of after → line ≡ command_in front → commands_in rest ≡ line ∷ commands_in after
first_said rest front after line lines is = ap (λ (l : List (List ℕ)). map command_in l) lines ∙ ap (λ (l : Option Command). l ∷ commands_in after) (sym is)

pub returns-in_default-command_in : goal.returns-in_default-command_in
returns-in_default-command_in g c = unread c.editing.invariant.to

pub returns-in-Err : goal.returns-in-Err
returns-in-Err g c =
    let left = first_said c.editing.rest.now c.in-Some.front.now c.in-Some.after.now c.in-Ok.line c.in-Some.ensures.lines_are c.in-Ok.ensures.is in
    line_fails (with_left c.editing.invariant.to left) c.edit_line.ensures c.in-Err.is

pub editing-preserved : goal.editing-preserved
editing-preserved g c =
    let held = c.editing.invariant in
    let host = c.edit_line.new.host in
    let left = first_said c.editing.rest.now c.in-Some.front.now c.in-Some.after.now c.in-Ok.line c.in-Some.ensures.lines_are c.in-Ok.ensures.is in
    let now = now_of g.H.Host.seen g.met.H.Host.counts_now g.met.H.Host.only_now g.met.H.Host.one_each g.met.H.Host.may_stay host in
    record { few = omega (arith, held.few, c.in-Some.ensures.shorter); to = line_done (with_left held.to left) c.edit_line.ensures c.in-Ok-edit_line.is c.is_refused-refused.ensures now }

pub returns : goal.returns
returns g c = ended c.editing.invariant.to (ap (λ (l : List (List ℕ)). map command_in l) c.in_default.ensures) c.status_of.ensures
