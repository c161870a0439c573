use Rattle.ldm_init.proofs.InitLaws.{if_ok_both}
use Rattle.ldm_init.specs.Images.{IsNewBody}
use Rattle.ldm_init.proofs.group.new_body.Goals as goal

pub returns : goal.returns
returns c =
    if_ok_both c.body_of.result _ _ (IsNewBody c.args.name.now c.args.guid c.args.guids.now)
    (λ body is made. record { db = c.in_ok-db.db; database = c.in_ok-db.ensures.made; is = is; made = made })
    c.body_of.ensures.body c.body_of.ensures.made
