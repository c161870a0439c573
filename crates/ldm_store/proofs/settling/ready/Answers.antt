use Rattle.std.proofs.Common.{◌≡◌, List, ℕ, Some, Ok, Err, IsErrOf, inl, inr, sym, ◌∙◌, ap, subst}
use Rattle.ldm_host.proofs.Relations.{looks_then, looks_as}
use Rattle.ldm_copy.specs.declared.fault.OpenFault.{OpenFault}
use Rattle.ldm_found.specs.declared.fault.OpenError.{OpenError}
use Rattle.ldm_found.specs.declared.fault.OpenError.TheVariants.{Disk, Fault}
use Rattle.ldm_found.specs.Facts.{LieOn}
use Rattle.ldm_found.specs.Opening.{IsGroupIn}
use Rattle.ldm_found.specs.Answers.{FindsIn}
use Rattle.ldm_store.specs.Bodies.{IsBegunBut, IsTidyBut}
use Rattle.ldm_store.proofs.ResultLaws.{fails, same_error, no_error}
use Rattle.ldm_store.proofs.settling.ready.Goals as goal

other_error : {T : Type 0} (fault : OpenFault) → IsErrOf {T = T} (Err (Fault fault)) Disk → ⊥
other_error fault is = cc is

pub returns-in_err-found : goal.returns-in_err-found
returns-in_err-found g c =
    let handed = c.from_residual.ensures.1 in
    record {
      ready = fails c.from_residual.result _ _ handed;
      fault = λ tells fault is.
          inl (subst (λ (e : OpenError). FindsIn (g.H.Host.seen c.args.host.now).content (Err e)) (same_error c.from_residual.result _ (Fault fault) handed is) (c.in_err-found.ensures.found tells));
      looks = looks_as c.in_err-found.ensures.looks (λ is. ap Err (same_error c.from_residual.result _ _ handed is));
    }

pub healing_body-requires : goal.healing_body-requires
healing_body-requires g c =
    let still = c.in_ok-found.ensures.looks.still in
    record {
      sound = c.in_ok-found.ensures.sound;
      unblocked = c.in_default.is;
      lies = subst (λ (l : List ℕ). LieOn c.in_ok-found.found.labels l) (sym still.later.sizes) c.in_ok-found.ensures.lies;
      is = λ tells. subst (λ (l : List (List ℕ)). IsGroupIn l (Ok c.in_ok-found.found)) (sym still.content) (c.in_ok-found.ensures.found tells);
    }

pub returns-in_err-body : goal.returns-in_err-body
returns-in_err-body g c =
    let result = c.from_residual-in_err-body.result in
    let handed = c.from_residual-in_err-body.ensures.1 in
    record {
      ready = fails result _ _ handed;
      fault = λ tells fault is. absurd (c.in_err-body.ensures.faultless fault (ap Err (same_error result _ _ handed is)));
      looks = looks_then c.in_ok-found.ensures.looks c.in_err-body.ensures.looks (λ is. ap Err (same_error result _ _ handed is));
    }

pub returns-in-Some-clause-ready : goal.returns-in-Some-clause-ready
returns-in-Some-clause-ready g c = tt

pub returns-in-Some-clause-looks : goal.returns-in-Some-clause-looks
returns-in-Some-clause-looks g c = looks_as c.in_ok-found.ensures.looks (λ is. absurd (other_error _ is))

pub returns-clause-fault : goal.returns-clause-fault
returns-clause-fault g c tells fault is = absurd (no_error _ _ is)

pub returns-in-Some-clause-fault : goal.returns-in-Some-clause-fault
returns-in-Some-clause-fault g c tells fault err = inr (c.in_ok-found.found, c.in_ok-found.ensures.found tells, (let e : Some c.in-Some.fault ≡ Some fault = cc in c.in-Some.is ∙ e))

pub returns-clause-ready : goal.returns-clause-ready
returns-clause-ready g c =
    let found = c.in_ok-found.found in
    let content = c.in_ok-found.ensures.looks.still.content in
    record {
      sound = c.in_ok-found.ensures.sound;
      editable = c.in_default.is;
      lies = c.in_ok-found.ensures.lies;
      is = c.in_ok-found.ensures.found;
      core = c.in_ok-body.ensures.core;
      exact = c.in_ok-body.ensures.exact;
      begun = λ tells e. subst (λ (l : List (List ℕ)). IsBegunBut found l c.in_ok-body.body) content (c.in_ok-body.ensures.shared tells e);
      alone = λ tells e. subst (λ (l : List (List ℕ)). IsTidyBut found l → ⊥) content (c.in_ok-body.ensures.alone tells e);
    }

pub returns-clause-looks : goal.returns-clause-looks
returns-clause-looks g c = looks_then c.in_ok-found.ensures.looks c.in_ok-body.ensures.looks (λ is. absurd (no_error _ _ is))
