use Rattle.ldm_damage.proofs.PatchingLaws.{adds_then}
use Rattle.ldm_damage.proofs.mending.show_mbr.Goals as goal

pub returns-clause-adds : goal.returns-clause-adds
returns-clause-adds g c =
    adds_then c.args.disk c.args.under.now.patches.items c.show_bytes.new.under.patches.items c.show_bytes-2.new.under.patches.items c.show_bytes.ensures.adds c.show_bytes-2.ensures.adds
