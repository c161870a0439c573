use Rattle.ldm_scan.proofs.scanning.scan_next.Given as goal

abbrev pub ghosts-scan_in : goal.ghosts-scan_in
ghosts-scan_in g a = record { start = g.H.Host.seen a.host; chosen = a.disk }
