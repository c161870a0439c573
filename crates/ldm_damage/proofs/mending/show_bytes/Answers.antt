use Rattle.std.proofs.Common.{refl}
use Rattle.ldm_view.specs.declared.patch.Patch.{Patch}
use Rattle.ldm_damage.proofs.PatchingLaws.{adds_none, adds_one, shows_one}
use Rattle.ldm_damage.proofs.mending.show_bytes.Goals as goal

pub returns-clause-here : goal.returns-clause-here
returns-clause-here g c i =
    let p : Patch = record { disk = c.args.disk; at = c.args.at; bytes = c.args.bytes } in
    shows_one c.args.disk c.args.under.now.patches.items c.show.new.self.patches.items p i refl c.in_ok-show.ensures.shown

pub returns-clause-adds : goal.returns-clause-adds
returns-clause-adds g c =
    let p : Patch = record { disk = c.args.disk; at = c.args.at; bytes = c.args.bytes } in
    adds_one c.args.disk c.args.under.now.patches.items c.show.new.self.patches.items p refl c.in_ok-show.ensures.shown

pub returns-in_err-show-clause-adds : goal.returns-in_err-show-clause-adds
returns-in_err-show-clause-adds g c = adds_none c.args.disk c.args.under.now.patches.items c.show.new.self.patches.items ∣ c.in_err-show.ensures.unchanged ∣₁
