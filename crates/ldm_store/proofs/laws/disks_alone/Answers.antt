use Rattle.ldm_rules.proofs.PresentLaws.{same_stranger}
use Rattle.ldm_store.proofs.ClearLaws.{same_reasons, still_editable}
use Rattle.ldm_store.proofs.laws.disks_alone.Goals as goal

pub returns-clause-blocked : goal.returns-clause-blocked
returns-clause-blocked c a b labels disks last = same_reasons a b labels disks last

pub returns-clause-stranger : goal.returns-clause-stranger
returns-clause-stranger c a b labels disks = same_stranger a.records b.records labels disks

pub returns-clause-growth : goal.returns-clause-growth
returns-clause-growth c a b labels disks large none = still_editable a b labels disks large none
