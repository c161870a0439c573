use Rattle.std.proofs.Common.{◌≡◌, ◌+◌, ◌*◌, ◌/◌, ℕ, List, slice_range, subst, ap, ◌∙◌}
use Rattle.ldm_host.specs.Seen.{image}
use Rattle.ldm_copy.specs.Copy.{gate_at}
use Rattle.ldm_vmdb.specs.declared.header.Header.{Header}
use Rattle.ldm_group.specs.Database.{Database}
use Rattle.ldm_body.specs.Table.{IsNoBody, body_bytes}
use Rattle.ldm_body.proofs.bodies.read_body.Goals as goal

none_by : (db : Database) (area : ℕ) (a b : List ℕ) → a ≡ b → IsNoBody db area a → IsNoBody db area b
none_by db area a b e none = subst (λ (l : List ℕ). IsNoBody db area l) e none

pub returns-clause-none : goal.returns-clause-none
returns-clause-none g c tells none =
    none_by c.args.db.now c.args.label.now.area_sectors c.deref.result.now
    (body_bytes c.args.db.now c.args.label.now (image (g.H.Host.seen c.args.host.now).content c.args.disk))
    (c.deref.ensures.value ∙ c.in_ok-bytes.ensures.bytes tells
    ∙ ap (λ (h : Header). slice_range (image (g.H.Host.seen c.args.host.now).content c.args.disk) (gate_at c.args.label.now) (gate_at c.args.label.now + 512 * (h.last / 4))) c.header.ensures)
    (c.in_ok-body_in.ensures.none none)
