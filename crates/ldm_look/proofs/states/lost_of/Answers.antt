use Rattle.std.proofs.Common.{Ok, ◌∙◌}
use Rattle.ldm_look.proofs.StateLaws.{all_end, lost_is, lost_fault}
use Rattle.ldm_look.proofs.states.lost_of.Goals as goal

pub plan_of-requires : goal.plan_of-requires
plan_of-requires c = all_end c.args.found.now c.args.parts.now c.args.volume.now.head.id c.requires.lists c.requires.ends

pub returns-in-Ok : goal.returns-in-Ok
returns-in-Ok c = c.lost_sectors.ensures ∙ lost_is c.args.found.now c.args.parts.now c.args.volume.now (Ok c.in-Ok.plan) c.requires.lists c.in-Ok.ensures

pub returns-in-Err-Fault : goal.returns-in-Err-Fault
returns-in-Err-Fault c = lost_fault c.args.found.now c.args.parts.now c.args.volume.now c.in-Err-Fault.field-0 c.in-Err-Fault.field-0-0 c.requires.lists c.in-Err-Fault.field-0-is c.in-Err-Fault.ensures
