use Rattle.std.proofs.Common.{◌≡◌, true, false, arith, refl, sym, ◌∙◌}
use Rattle.ldm_look.specs.States.{lost_of}
use Rattle.ldm_look.proofs.StateLaws.{images_are, state_is, some_lost}
use Rattle.ldm_look.proofs.states.state_of.Goals as goal

pub returns-then-have_images : goal.returns-then-have_images
returns-then-have_images c =
    let found = c.args.found.now in
    let v = c.args.volume.now in
    let has = images_are found c.args.parts.now v.head.id c.plexes.result.now c.have_images.result c.requires.lists c.plexes.ensures c.have_images.ensures in
    state_is found v true (lost_of found v) (sym c.if-have_images.true ∙ has) refl

pub returns-then-lost-eq0 : goal.returns-then-lost-eq0
returns-then-lost-eq0 c =
    let found = c.args.found.now in
    let v = c.args.volume.now in
    let has = images_are found c.args.parts.now v.head.id c.plexes.result.now c.have_images.result c.requires.lists c.plexes.ensures c.have_images.ensures in
    let none : 0 ≡ c.in_ok-lost.lost = omega (arith, c.if-lost-eq0.true) in
    state_is found v false 0 (sym c.if-have_images.false ∙ has) (none ∙ c.in_ok-lost.ensures)

pub returns-else-lost-eq0 : goal.returns-else-lost-eq0
returns-else-lost-eq0 c =
    let found = c.args.found.now in
    let v = c.args.volume.now in
    let has = images_are found c.args.parts.now v.head.id c.plexes.result.now c.have_images.result c.requires.lists c.plexes.ensures c.have_images.ensures in
    some_lost c.in_ok-lost.lost (omega (arith, c.if-lost-eq0.false)) ∙ state_is found v false c.in_ok-lost.lost (sym c.if-have_images.false ∙ has) c.in_ok-lost.ensures
