use Rattle.ldm_look.proofs.show_text.push_place.Goals as goal

pub returns-in-Some : goal.returns-in-Some
returns-in-Some c = rw (← c.in-Some.ensures) c.push_image.ensures
