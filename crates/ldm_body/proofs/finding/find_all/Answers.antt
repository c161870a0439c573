use Rattle.std.proofs.Common.{◌≡◌, ◌+◌, ◌∷◌, [], ◌++◌, List, map, Vec, Global, sym, ap, subst, ◌∙◌}
use Rattle.std.proofs.lemmas.List.{map_push}
use Rattle.std.proofs.lemmas.List.Elements.{All-weaker}
use Rattle.ldm_records.specs.Plain.{IsRecord}
use Rattle.ldm_records.specs.Views.{plain_of}
use Rattle.ldm_body.specs.Body.{Stored}
use Rattle.ldm_body.specs.declared.finding.Found.{Found}
use Rattle.ldm_body.specs.declared.finding.Look.{Look}
use Rattle.ldm_body.specs.Finding.{StandsAt, IsFoundAt, stored_of}
use Rattle.ldm_body.proofs.BodyLaws.{key}
use Rattle.ldm_body.proofs.FindLaws.{IsFoundUpTo, found_nothing, found_more, found_holds, found_all}
use Rattle.ldm_body.proofs.finding.find_all.Goals as goal
use Rattle.ldm_body.proofs.finding.find_all.Goals.{in-Nothing, in-Record+in_ok-push-in-Record}

pub loop-k-preserved : goal.loop-k-preserved
loop-k-preserved c =
    let blocks = c.args.blocks.now in
    let k = c.loop-k.k in
    let S : List Stored = map stored_of c.loop-k.list.items in
    elim c.match-branch-3.branch [
      | in-Nothing w ↦
          subst (λ (v : Vec Found Global). IsFoundUpTo blocks (k + 1) (map stored_of v.items)) (sym w.list-is)
          (found_nothing blocks k c.requires.small c.loop-k-test.true S c.loop-k.invariant (subst (λ (l : Look). StandsAt blocks k l) w.in-Nothing.is c.in_ok-look_at.ensures))
      | in-Record+in_ok-push-in-Record w ↦
          (let f : Found = w.in-Record.found in
          let items : map stored_of w.push.new.self.items ≡ S ++ stored_of f ∷ [] = ap (map stored_of) w.in_ok-push-in-Record.ensures.items ∙ map_push stored_of c.loop-k.list.items f in
          subst (λ (v : Vec Found Global). IsFoundUpTo blocks (k + 1) (map stored_of v.items)) (sym w.list-is)
          (subst (λ (l : List Stored). IsFoundUpTo blocks (k + 1) l) (sym items)
          (found_more blocks k c.requires.small c.loop-k-test.true S c.loop-k.invariant (stored_of f) (subst (λ (l : Look). StandsAt blocks k l) w.in-Record.is c.in_ok-look_at.ensures))))
    ]

pub returns-clause-held : goal.returns-clause-held
returns-clause-held c =
    let blocks = c.args.blocks.now in
    let S : List Stored = map stored_of c.loop-k.list.items in
    record {
      holds = found_holds blocks c.loop-k.k S c.loop-k-test.false c.loop-k.invariant;
      sound = All-weaker (λ s. IsFoundAt blocks (key s) s) (λ s. IsRecord (plain_of s.record_is)) (λ s f. f.sound) S c.loop-k.invariant.each;
      only = λ ss sound holds. found_all blocks c.loop-k.k S ss c.loop-k-test.false c.loop-k.invariant sound holds;
    }
