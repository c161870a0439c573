use Rattle.std.proofs.Common.{◌≡◌, ◌≤◌, ◌<◌, ℕ, List, length, get_or}
use Rattle.ldm_host.specs.Seen.{image}
use Rattle.ldm_view.specs.Patches.{patched}
use Rattle.ldm_damage.specs.Looked.{Looked}
use Rattle.ldm_damage.specs.Views.{IsDamage, no_damage}
use Rattle.ldm_damage.proofs.finding.find_damage.Given as goal

abbrev pub invariant-loop-disk : goal.invariant-loop-disk
invariant-loop-disk g l =
    let start = g.H.Host.seen l.fn.host in
    record {
      looked : Looked start (g.H.Host.seen l.under.host) ⊥;
      one_damage : length l.damages.items ≡ l.disk;
      none : (d : ℕ) (i : List ℕ) → l.disk ≤ d → patched l.under.patches.items d i ≡ i;
      each : g.H.Host.tells_disks → (d : ℕ) → d < l.disk
          → IsDamage (image start.content d) (get_or l.damages.items d no_damage) (patched l.under.patches.items d (image start.content d));
    }
