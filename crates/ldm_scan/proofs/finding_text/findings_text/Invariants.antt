use Rattle.std.proofs.Common.{◌≡◌, ◌++◌, drop}
use Rattle.std.specs.Prelude.{flat_map}
use Rattle.std.specs.List.{enumerate_from}
use Rattle.ldm_scan.specs.Findings.{line_of_finding, text_of_findings}
use Rattle.ldm_scan.proofs.finding_text.findings_text.Given as goal

abbrev pub invariant-loop-image : goal.invariant-loop-image
invariant-loop-image l = l.text ++ flat_map line_of_finding (enumerate_from l.image (drop l.image l.findings)) ≡ text_of_findings l.findings
