use Rattle.ldm_damage.proofs.labels.label_shown.Given as goal

abbrev pub ghosts-label_in : goal.ghosts-label_in
ghosts-label_in g a = record { start = g.H.Host.seen a.under.host; patches = a.under.patches.items }
