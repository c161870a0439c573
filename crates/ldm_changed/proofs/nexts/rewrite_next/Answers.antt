use Rattle.std.proofs.Common.{sym, subst}
use Rattle.ldm_group.specs.Database.{Database}
use Rattle.ldm_body.specs.Body.{IsBodyOn}
use Rattle.ldm_body.specs.Rewriting.{Rewrites}
use Rattle.ldm_changed.specs.declared.nexts.Next.{Next}
use Rattle.ldm_changed.specs.Nexts.{bytes_in, most_in}
use Rattle.ldm_changed.proofs.nexts.rewrite_next.Goals as goal

pub rewrite-requires-clause-body : goal.rewrite-requires-clause-body
rewrite-requires-clause-body g c = subst (λ (next : Next). (db : Database) × IsBodyOn db c.args.label.now (bytes_in next)) c.in-Whole.is c.requires.body

pub rewrite_changed-requires-clause-body : goal.rewrite_changed-requires-clause-body
rewrite_changed-requires-clause-body g c = subst (λ (next : Next). (db : Database) × IsBodyOn db c.args.label.now (bytes_in next)) c.in-Changed.is c.requires.body

pub returns-in-Whole : goal.returns-in-Whole
returns-in-Whole g c =
    subst (λ (next : Next). Rewrites g.H.Host.tells_disks c.rewrite.result c.args.disk c.args.label.now (bytes_in next) (most_in next) (g.H.Host.seen c.args.host.now) (g.H.Host.seen c.rewrite.new.host))
    (sym c.in-Whole.is) c.rewrite.ensures

pub returns-in-Changed : goal.returns-in-Changed
returns-in-Changed g c =
    subst (λ (next : Next). Rewrites g.H.Host.tells_disks c.rewrite_changed.result c.args.disk c.args.label.now (bytes_in next) (most_in next) (g.H.Host.seen c.args.host.now) (g.H.Host.seen c.rewrite_changed.new.host))
    (sym c.in-Changed.is) c.rewrite_changed.ensures
