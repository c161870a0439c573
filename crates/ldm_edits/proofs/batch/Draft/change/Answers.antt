use Rattle.std.proofs.Common.{true, sym}
use Rattle.ldm_edits.proofs.batch.Draft.change.Goals as goal

pub returns-in-Ok : goal.returns-in-Ok
returns-in-Ok c =
    let added = c.in-Ok.ensures.is in
    rw (← c.self.view_is) (added.0, added.1, c.in-Ok.ensures.unspent, λ i. record { db = sym added.2 i; filled = true })
