use Rattle.std.proofs.Common.{ap, arith, length}
use Rattle.ldm_records.specs.Outlines.{listed}
use Rattle.ldm_records.specs.Views.{plain_of}
use Rattle.ldm_records.proofs.PlainLaws.{own-len}
use Rattle.ldm_records.proofs.OutlineLaws.{listed_len}
use Rattle.ldm_records.proofs.lengths.spelled_len.Goals as goal

pub returns-clause-len : goal.returns-clause-len
returns-clause-len c =
    let p = plain_of c.args.r.now in
    omega (arith, c.fields_len.ensures, ap length c.as_slice.ensures, listed_len p (listed c.outline_of-outline.result) c.outline_of-outline.ensures, own-len p)
