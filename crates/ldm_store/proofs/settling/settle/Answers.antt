use Rattle.std.proofs.Common.{◌≢◌, ℕ, List, inl, inr, Result, Ok, Err, IfOk, IfErr, refl, sym, subst}
use Rattle.ldm_host.specs.Moves.{Settles}
use Rattle.ldm_host.proofs.Relations.{settles_trans, settles_works, works_then}
use Rattle.ldm_found.specs.declared.fault.OpenError.TheVariants.{Disk}
use Rattle.ldm_found.specs.Opening.{IsGroupIn}
use Rattle.ldm_store.specs.Kept.{HoldsNoneFor}
use Rattle.ldm_store.specs.Settling.{IsHandedFew, IsSettled}
use Rattle.ldm_store.proofs.SettleLaws.{hands_none, group_since, moments_since, untouched_since}
use Rattle.ldm_store.proofs.settling.settle.Goals as goal

-- an error of which more is known
more_error : {T E : Type 0} (result : Result T E) (P Q : E → Type 0) → ((error : E) → P error → Q error) → IfErr result P → IfErr result Q
more_error (Ok value) P Q more is = tt
more_error (Err error) P Q more is = more error is

pub returns-in_default-clause-any_moment : goal.returns-in_default-clause-any_moment
returns-in_default-clause-any_moment g c tells =
    let only = c.sync_all.ensures.settles.moments in
    record { any = inl only; synced = λ found is editable. inl (refl, only) }

pub returns-in_default-clause-handed : goal.returns-in_default-clause-handed
returns-in_default-clause-handed g c tells found is = hands_none found _ _ c.sync_all.ensures.settles.wrote

pub returns : goal.returns
returns g c =
    let a = g.H.Host.seen c.args.host.now in
    let b = g.H.Host.seen c.sync_all.new.host in
    let d = g.H.Host.seen c.settle_synced.new.host in
    let result = c.settle_synced.result in
    let settles = c.sync_all.ensures.settles in
    let done = c.settle_synced.ensures in
    record {
      any_moment = λ tells. record {
        any = moments_since a b d settles done.works.later (done.kept tells) (done.written tells);
        synced = λ found is editable. inr (group_since a b d settles done.works.later (done.kept tells) found is editable);
      };
      session = subst (λ (l : List (List ℕ)). IfOk result (λ session. IsSettled g.H.Host.tells_disks l session d)) settles.content done.session;
      fault = λ tells fault err. subst (λ (l : List (List ℕ)). HoldsNoneFor fault l) settles.content (done.fault tells fault err);
      untouched = λ tells none. untouched_since a b d settles done.works.later (done.kept tells) (done.written tells) none;
      unwritten = more_error result (λ error. error ≢ Disk → Settles b d) (λ error. error ≢ Disk → Settles a d) (λ error still ne. settles_trans a b d settles (still ne)) done.unwritten;
      handed = λ tells found is. subst (λ (l : List ℕ). IsHandedFew found l d.wrote) settles.wrote
          (done.handed tells found (subst (λ (l : List (List ℕ)). IsGroupIn l (Ok found)) (sym settles.content) is));
      works = works_then (settles_works {P = ⊥} settles (λ is. absurd is)) done.works (λ is. is);
    }
