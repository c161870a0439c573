use Rattle.ldm_scrub.proofs.missing.has_part.Goals as goal

pub is_part-requires : goal.is_part-requires
is_part-requires c = c.as_slice-r-items.ensures.rising
