use Rattle.std.proofs.Common.{◌∙◌}
use Rattle.ldm_host.specs.Images.{items_of}
use Rattle.ldm_run.proofs.SampleLaws.{started}
use Rattle.ldm_run.proofs.sample.start_host.Goals as goal

pub returns-clause-starts : goal.returns-clause-starts
returns-clause-starts c =
    let found = c.in_ok-images.ensures.found in
    let made = c.in_ok-new.ensures in (
      found.0,
      started {host = c.in_ok-new.field-0} (items_of c.in_ok-images.images.items) found.0 c.in_ok-images.ensures.made found.1 found.2 made.content made.settled made.clock made.said made.heard
          (made.input ∙ c.in_ok-script.ensures.is),
    )

pub returns-clause-short : goal.returns-clause-short
returns-clause-short c = (let script = c.in_ok-script.ensures in rw (← script.is) script.short)
