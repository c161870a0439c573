use Rattle.ldm_table.proofs.VolumeLaws.{rest_copied, copied_some, volume_sound}
use Rattle.ldm_table.proofs.table.push_devices.Goals as goal

pub push_rest-requires-clause-copied : goal.push_rest-requires-clause-copied
push_rest-requires-clause-copied g c x low high =
    let found = c.args.found.now in
    let plan = c.args.plan.now in
    copied_some found plan x (rest_copied found plan (volume_sound c.args.words.now found c.args.volume.now plan c.requires.sound) x low high)
