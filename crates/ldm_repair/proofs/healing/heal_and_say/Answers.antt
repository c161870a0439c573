use Rattle.std.proofs.Common.{refl}
use Rattle.ldm_repair.proofs.PastLaws.{good_is_past, one_group_past}
use Rattle.ldm_repair.proofs.SaidLaws.{repaired_said}
use Rattle.ldm_repair.proofs.healing.heal_and_say.Goals as goal
use Rattle.ldm_repair.proofs.healing.heal_and_say.Goals.{in-Ok, in-Err}

pub returns-clause-repairs : goal.returns-clause-repairs
returns-clause-repairs g c =
    let seen = g.H.Host.seen in
    let tells = g.H.Host.tells_disks in
    let plan = c.requires.planned.2 in
    elim c.match-heal_or_end.branch [
      | in-Ok w ↦ rw (w.host-is, w.status-is) (repaired_said good_is_past one_group_past tells (seen c.args.host) (seen c.heal_or_end.new.host) c.args.plan.found c.args.damages.items plan.editable c.requires.labels
          (λ told. (c.requires.planned.0, c.requires.planned.1 told, plan.is told))
          (seen w.say_made-status.new.host) c.args.plan.text w.say_made-status.result w.in-Ok.ensures.healed (w.say_made-status.ensures.says c.args.plan.text refl) g.met.H.Host.tells_both
          (λ told. g.met.H.Host.one_each told c.heal_or_end.new.host) plan.text)
      | in-Err w ↦ rw (w.host-is, w.status-is) w.in-Err.ensures.ended
    ]
