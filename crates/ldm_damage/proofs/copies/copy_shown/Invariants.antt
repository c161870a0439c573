use Rattle.ldm_damage.proofs.copies.copy_shown.Given as goal

abbrev pub ghosts-copy_in : goal.ghosts-copy_in
ghosts-copy_in g a = record { start = g.H.Host.seen a.under.host; patches = a.under.patches.items }
