use Rattle.std.proofs.Common.{rules, ◌<◌, ◌+◌, ℕ, List, length, get_or, sym, ◌∙◌, ap, subst, arith}
use Rattle.std.proofs.lemmas.Option.{slice_get-get_or}
use Rattle.ldm_host.specs.Seen.{image}
use Rattle.ldm_host.proofs.Relations.{works_itself, works_then, works_as}
use Rattle.ldm_copy.specs.Copy.{config_area, IsOpen}
use Rattle.ldm_repair.proofs.StepLaws.{no_label, IsLabelled, labelled_on, handed_none, below_none, view_faulty, below_skip, below_outside, closing_always, closing_outside, below_step, all_below, settled_step, handed_skip, handed_step, handed_all, writes_works}
use Rattle.ldm_repair.proofs.closing.close_all.Goals as goal
use Rattle.ldm_repair.proofs.closing.close_all.Goals.{then-is_damaged+in_ok-close, else-is_damaged}

pub loop-disk-init : goal.loop-disk-init
loop-disk-init g c =
    let host = c.args.host.now in
    let a = g.H.Host.seen host in
    let labels = c.args.labels.now in
    let only = g.met.H.Host.only_now host in
    let labelled : g.H.Host.tells_disks → IsLabelled labels (length a.sizes) a.content = λ tells.
    labelled_on labels a c.requires.lie (c.requires.labelled tells) c.requires.clear (g.met.H.Host.one_each tells host) (g.met.H.Host.lengths tells host) in
    record {
      works = works_itself a (g.met.H.Host.counts_now host) only;
      settled = c.requires.settled;
      handed = handed_none c.args.damages.now a.wrote;
      labelled = labelled;
      below = λ tells views are. below_none labels c.args.damages.now views a (labelled tells) are c.requires.settled only;
    }

pub close-requires-clause-opened : goal.close-requires-clause-opened
close-requires-clause-opened g c tells =
    let host = c.args.host.now in
    let a = g.H.Host.seen host in
    let labels = c.args.labels.now in
    let disk = c.loop-disk.disk in
    let i = c.loop-disk.invariant in
    let at = slice_get-get_or labels disk no_label c.loop-disk-test.true in
    let past = c.requires.damaged tells in
    let view = view_faulty labels c.args.damages.now past.0 a (i.labelled tells) past.1 disk (get_or labels disk no_label) at (sym c.is_damaged.ensures ∙ c.if-is_damaged.true) in
    subst (λ (x : List ℕ). IsOpen (config_area (get_or labels disk no_label) x)) (sym ((i.below tells past.0 past.1).above disk (omega arith))) view.0

pub returns-in_err-close : goal.returns-in_err-close
returns-in_err-close g c =
    let host = c.args.host.now in
    let a = g.H.Host.seen host in
    let b = g.H.Host.seen c.loop-disk.host in
    let d = g.H.Host.seen c.close.new.host in
    let labels = c.args.labels.now in
    let damages = c.args.damages.now in
    let disk = c.loop-disk.disk in
    let i = c.loop-disk.invariant in
    let writes = c.close.ensures.writes in
    let at = slice_get-get_or labels disk no_label c.loop-disk-test.true in
    let some = sym c.is_damaged.ensures ∙ c.if-is_damaged.true in
    record {
      any_moment = λ tells views are.
          closing_always labels damages views a (i.labelled tells) are b d disk _ at some (i.below tells views are) i.works i.settled writes;
      done = search rules;
      outside = λ tells.
          let past = c.requires.damaged tells in
          closing_outside labels damages past.0 a (i.labelled tells) past.1 b d disk _ at some (i.below tells past.0 past.1) i.works i.settled writes;
      settled = search rules;
      handed = handed_all damages a.wrote d.wrote (disk + 1) (handed_step damages a b d disk _ writes some i.handed);
      works = works_then i.works (writes_works writes c.close.ensures.cause) (search rules);
    }

pub loop-disk-preserved : goal.loop-disk-preserved
loop-disk-preserved g c =
    let host = c.args.host.now in
    let a = g.H.Host.seen host in
    let b = g.H.Host.seen c.loop-disk.host in
    let labels = c.args.labels.now in
    let damages = c.args.damages.now in
    let disk = c.loop-disk.disk in
    let i = c.loop-disk.invariant in
    let at = slice_get-get_or labels disk no_label c.loop-disk-test.true in
    elim c.if-is_damaged.branch [
      | then-is_damaged+in_ok-close w ↦
          let d = g.H.Host.seen w.close.new.host in
          let writes = w.close.ensures.writes in
          let some = sym c.is_damaged.ensures ∙ w.if-is_damaged.true in
          rw w.host-is (record {
            works = works_then i.works (writes_works writes (λ is. absurd is)) (λ is. is);
            settled = settled_step b d disk _ 1 writes i.settled w.in_ok-close.ensures.settled;
            handed = handed_step damages a b d disk _ writes some i.handed;
            labelled = i.labelled;
            below = λ tells views are.
                let there : disk < length d.sizes = omega (arith, c.loop-disk-test.true, c.requires.lie.one_label, ap length i.works.later.sizes, ap length writes.later.sizes) in
                below_step labels damages views a (i.labelled tells) are b d disk _ at some (i.below tells views are) i.works i.settled writes
                (w.in_ok-close.ensures.gate tells (image d.content disk) (g.met.H.Host.may_stay tells w.close.new.host disk there));
          })
      | else-is_damaged w ↦
          rw w.host-is (record {
            works = i.works;
            settled = i.settled;
            handed = handed_skip damages a.wrote b.wrote disk i.handed;
            labelled = i.labelled;
            below = λ tells views are.
                below_skip labels damages views a (i.labelled tells) are b disk _ at (sym c.is_damaged.ensures ∙ w.if-is_damaged.false) (i.below tells views are);
          })
    ]

pub returns : goal.returns
returns g c =
    let host = c.args.host.now in
    let a = g.H.Host.seen host in
    let b = g.H.Host.seen c.loop-disk.host in
    let labels = c.args.labels.now in
    let damages = c.args.damages.now in
    let disk = c.loop-disk.disk in
    let i = c.loop-disk.invariant in
    record {
      any_moment = λ tells views are. (i.below tells views are).always;
      done = λ tells views are.
          all_below labels damages views a (i.labelled tells) are b disk (i.below tells views are) (omega (arith, c.loop-disk-test.false));
      outside = λ tells.
          let past = c.requires.damaged tells in
          below_outside labels damages past.0 a (i.labelled tells) past.1 b disk (i.below tells past.0 past.1);
      settled = i.settled;
      handed = handed_all damages a.wrote b.wrote disk i.handed;
      works = works_as i.works (λ is. absurd (cc is));
    }
