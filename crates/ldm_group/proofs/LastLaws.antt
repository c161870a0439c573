-- The last VBLK sequence that a group takes.
use Rattle.std.proofs.Common.{◌≡◌, ℕ, ◌+◌, ◌-◌, ◌*◌, ◌/◌, ◌<◌, ◌≤◌, refl, Bool, true, false, arith}
use Rattle.std.specs.Prelude.{nat_le, if◌then◌else◌}
use Rattle.std.proofs.lemmas.Bool.{leb-true, leb-false}
use Rattle.ldm_group.specs.Room.{room_of, last_for, IsLastFor, LastGrows}

pub last_grows : LastGrows
last_grows area last need few fits = by (nat_le need (room_of last)) refl
  where
    by : (b : Bool) → nat_le need (room_of last) ≡ b → IsLastFor area last need (if b then last else 4 * ((need + 7) / 4))
    by true e = record { rises = omega arith; holds = leb-true need (room_of last) e; fits = fits; least = λ other q h. absurd (other refl) }
    by false e =
        let more : room_of last < need = leb-false need (room_of last) e in
        record { rises = omega arith; holds = omega arith; fits = omega arith; least = λ other q h. omega arith }
