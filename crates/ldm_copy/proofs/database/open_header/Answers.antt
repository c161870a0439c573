use Rattle.std.proofs.Common.{◌*◌, ◌≤◌, ℕ, sym, subst}
use Rattle.ldm_copy.proofs.RoomLaws.{last_fits}
use Rattle.ldm_copy.proofs.database.open_header.Goals as goal

pub returns-clause-last : goal.returns-clause-last
returns-clause-last c =
    let read = c.in_ok-read_header.ensures in
    subst (λ (n : ℕ). n ≤ 4 * c.args.area_sectors) (sym read.1.last_is) (last_fits c.args.first.now c.args.area_sectors read.0)
