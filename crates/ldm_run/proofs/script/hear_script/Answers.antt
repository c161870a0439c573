use Rattle.std.proofs.Common.{rules, ◌≡◌, ◌≤◌, List, ℕ, length, ◌+◌, ◌++◌, arith, refl, sym, ap, subst, ◌∙◌, take}
use Rattle.std.proofs.lemmas.List.{take-append-le, length-append, length-take-le}
use Rattle.ldm_host.proofs.Relations.{rose_sooner}
use Rattle.ldm_run.specs.Heard.{Hears}
use Rattle.ldm_run.proofs.Saying.{at_end, heard_end, hears_more, hears_on, too_long}
use Rattle.ldm_run.proofs.script.hear_script.Goals as goal

pub returns-then-count-eq0-clause-script : goal.returns-then-count-eq0-clause-script
returns-then-count-eq0-clause-script g c tells =
    let taken = c.in-Ok.ensures.taken tells in
    let end = at_end (g.H.Host.seen c.args.host.now) (g.H.Host.seen c.hearing.host) (g.H.Host.seen c.hear.new.self) c.hearing.script.items _ (c.hearing.invariant.hears.takes tells) taken.0 (taken.2 c.if-count-eq0.true) in
    (c.from_vec.ensures ∙ end.0, end.1, heard_end c.in-Ok.count _ _ taken.3 c.if-count-eq0.true)

pub returns-then-count-eq0-clause-hears : goal.returns-then-count-eq0-clause-hears
returns-then-count-eq0-clause-hears g c =
    let within : c.in-Ok.count ≤ length c.hear.new.buf = search rules in
    let few : length c.hearing.script.items + c.in-Ok.count ≤ 1048577 = omega (arith, c.if-count-eq0.true, c.hearing.invariant.within) in
    (_, hears_more c.hear.new.buf c.in-Ok.count c.hearing.invariant.hears within few c.in-Ok.ensures.taken c.hear.ensures.silent c.hear.ensures.still)

pub returns-then-is_err-clause-hears : goal.returns-then-is_err-clause-hears
returns-then-is_err-clause-hears g c =
    let within : c.in-Ok.count ≤ length c.hear.new.buf = search rules in
    let few : length c.hearing.script.items + c.in-Ok.count ≤ 1048577 = search rules in
    (_, hears_more c.hear.new.buf c.in-Ok.count c.hearing.invariant.hears within few c.in-Ok.ensures.taken c.hear.ensures.silent c.hear.ensures.still)

pub hearing-preserved : goal.hearing-preserved
hearing-preserved g c =
    let before = c.hearing.script.items in
    let count = c.in-Ok.count in
    let within : count ≤ length c.hear.new.buf = search rules in
    let few : length before + count ≤ 1048577 = search rules in
    let items : c.extend_from_slice.new.self.items ≡ before ++ take count c.hear.new.buf =
    rw c.if-is_err.ensures.negation at c.extend_from_slice.ensures.items ∙ ap (λ (l : List ℕ). before ++ l) (take-append-le count c.hear.new.buf _ within) in
    record {
      hears = subst (λ (l : List ℕ). Hears g.H.Host.tells_talk (g.H.Host.seen c.args.host.now) (g.H.Host.seen c.hear.new.self) l) (sym items)
          (hears_more c.hear.new.buf count c.hearing.invariant.hears within few c.in-Ok.ensures.taken c.hear.ensures.silent c.hear.ensures.still);
      within = omega (arith, few, ap length items, length-append before (take count c.hear.new.buf), length-take-le count c.hear.new.buf within);
    }

pub returns-in_default-clause-hears : goal.returns-in_default-clause-hears
returns-in_default-clause-hears g c = (_, hears_on c.hearing.invariant.hears c.in_default.ensures.nothing c.hear.ensures.still)

pub returns-in_default-clause-fault : goal.returns-in_default-clause-fault
returns-in_default-clause-fault g c = rose_sooner _ _ _ c.hearing.invariant.hears.still.later.talk_faults (c.in_default.ensures.cause refl)

pub returns-clause-hears : goal.returns-clause-hears
returns-clause-hears g c = (_, c.hearing.invariant.hears)

pub returns-clause-script : goal.returns-clause-script
returns-clause-script g c tells = too_long _ _ _ (c.hearing.invariant.hears.takes tells) (search rules)
