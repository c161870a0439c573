use Rattle.std.proofs.Common.{List, [], ◌∷◌, ◌++◌, ◌∙◌, length, ap, subst, arith}
use Rattle.std.proofs.lemmas.List.{length_push}
use Rattle.ldm_frags.specs.declared.blocks.Piece.{Piece}
use Rattle.ldm_frags.specs.Answers.{IsFault}
use Rattle.ldm_frags.specs.Blocks.{count}
use Rattle.ldm_frags.specs.Fed.{Fed}
use Rattle.ldm_frags.specs.Kept.{blocks_of}
use Rattle.ldm_frags.proofs.KeptLaws.{count_of, same_kept, fed_fault, fed_more, first_met}
use Rattle.ldm_frags.proofs.joiner.Joiner.feed.Goals as goal

pub add-requires-clause-few : goal.add-requires-clause-few
add-requires-clause-few c =
    let many = ap (λ (v : Fed). count v.blocks) c.self.view_is in
    let limit = ap (λ (v : Fed). v.limit) c.self.view_is in
    omega (arith, count_of c.self.inside.pieces.items)

pub returns-in-Err-clause-fed : goal.returns-in-Err-clause-fed
returns-in-Err-clause-fed c = λ blocks fed.
    subst (IsFault c.in-Err.error)
    (fed_fault c.args.self.now c.self.inside.pieces.items blocks c.args.block.now (same_kept _ _ c.self.view_is) (omega arith) fed)
    c.in-Err.ensures.fault

pub returns-in-Err-clause-first : goal.returns-in-Err-clause-first
returns-in-Err-clause-first c = λ blocks rest fed.
    first_met c.args.self.now blocks c.args.block.now rest c.in-Err.error (omega arith) fed (returns-in-Err-clause-fed c blocks fed)

pub invariant_of-self-in_default-add : goal.invariant_of-self-in_default-add
invariant_of-self-in_default-add c =
    let added = c.in_default-add.ensures.added in
    let many = ap (λ (v : Fed). count v.blocks) c.self.view_is in
    let limit = ap (λ (v : Fed). v.limit) c.self.view_is in
    let longer = ap length added.1 ∙ length_push c.self.inside.pieces.items added.0 in
    record {
      few = c.self.invariant.few;
      within = omega (arith, count_of c.self.inside.pieces.items);
      kept = λ going. c.in_default-add.ensures.kept;
    }

pub returns-clause-fed : goal.returns-clause-fed
returns-clause-fed c = λ blocks fed.
    let added = c.in_default-add.ensures.added in
    fed_more c.args.self.now _ c.self.inside.pieces.items added.0 blocks c.args.block.now (same_kept _ _ c.self.view_is) (ap blocks_of added.1) c.in_default.is added.2 fed

pub returns-clause-taken : goal.returns-clause-taken
returns-clause-taken c =
    let added = c.in_default-add.ensures.added in
    let items = c.self.inside.pieces.items in
    let many = ap (λ (v : Fed). count v.blocks) c.self.view_is in
    let now = ap (λ (x : List Piece). count (blocks_of x)) added.1 in
    omega (arith, count_of items, count_of (items ++ added.0 ∷ []), length_push items added.0)
