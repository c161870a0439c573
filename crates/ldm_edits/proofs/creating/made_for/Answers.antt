use Rattle.ldm_edits.proofs.AskedLaws.{span_low}
use Rattle.ldm_edits.proofs.creating.made_for.Goals as goal

pub span-requires-clause-sizes : goal.span-requires-clause-sizes
span-requires-clause-sizes c =
    span_low c.in-Span.pieces c.args.spots.now (rw c.in-Span.is at c.requires.sizes) (rw c.in-Span.is at c.requires.size)

pub returns-in-Stripe : goal.returns-in-Stripe
returns-in-Stripe c = rw c.in-Stripe.is c.stripe.ensures

pub returns-in-Mirror : goal.returns-in-Mirror
returns-in-Mirror c = rw c.in-Mirror.is c.mirror.ensures

pub returns-in-Raid5 : goal.returns-in-Raid5
returns-in-Raid5 c = rw c.in-Raid5.is c.raid5.ensures
