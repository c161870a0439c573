use Rattle.std.proofs.Common.{rules}
use Rattle.ldm_records.specs.Values.{Number}
use Rattle.ldm_payloads.proofs.OpeningLaws.{typed_open, typed_no_id, typed_no_name}
use Rattle.ldm_payloads.proofs.ends.opening_of.Goals as goal
use Rattle.ldm_payloads.proofs.ends.opening_of.Goals.{in_default-via-in-None-1, in_default-via-in-Some+in-None-1}

pub returns-in_default : goal.returns-in_default
returns-in_default c =
    elim c.in_default.branch [
      | in_default-via-in-None-1 w ↦ λ type. typed_no_id c.args.mark c.args.flags type c.args.room c.args.body.now (search rules)
      | in_default-via-in-Some+in-None-1 w ↦
          λ type. typed_no_name c.args.mark c.args.flags type c.args.room c.args.body.now (Number w.in-Some.id, w.in-Some.rest.now) (search rules) (search rules)
    ]

pub returns-in-Some-read_text : goal.returns-in-Some-read_text
returns-in-Some-read_text c =
    λ type. typed_open _ type c.args.body.now c.in-Some.rest.now c.in-Some-read_text.rest.now c.in-Some.ensures c.in-Some-read_text.ensures.gives
