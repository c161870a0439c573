use Rattle.std.proofs.Common.{not, ◌∙◌, ap, ℕ, List, Option}
use Rattle.std.specs.Option.{option_map}
use Rattle.ldm_layout.specs.declared.faulty.VolumeFault.{VolumeFault}
use Rattle.ldm_rules.specs.Rules.{is_short_fault}
use Rattle.ldm_rules.proofs.FirstLaws.{first_passing, first_faulty}
use Rattle.ldm_rules.proofs.layouts.faulty.Goals as goal

pub returns : goal.returns
returns c = λ records is. c.volume_in.ensures
    ∙ (ap (λ (found : Option VolumeFault). option_map {U = ℕ} (λ (f : VolumeFault). f.volume) found) c.first_of.ensures
    ∙ (ap (λ (faults : List VolumeFault). first_passing (λ f. not (is_short_fault f)) faults) is ∙ first_faulty records))
