use Rattle.ldm_repair.proofs.viewing.find_shown.Given as goal

abbrev pub ghosts-find_in : goal.ghosts-find_in
ghosts-find_in g a = record { start = g.H.Host.seen a.under.host; patches = a.under.patches.items }
