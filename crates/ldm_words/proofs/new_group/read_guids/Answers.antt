use Rattle.std.proofs.Common.{◌∙◌, ℕ, List, Some, sym, ap, arith}
use Rattle.ldm_bytes.specs.Guid.{guid_of}
use Rattle.ldm_words.proofs.CommandLaws.{next_read, not_read, all_read, many_read}
use Rattle.ldm_words.proofs.new_group.read_guids.Goals as goal

pub loop-token-preserved : goal.loop-token-preserved
loop-token-preserved c =
    rw c.in_ok-push.ensures.items (next_read guid_of c.args.tokens.now c.loop-token.token-index c.loop-token.guids.items _ c.in-Some.guid c.loop-token-test.true (sym c.in-Some.is ∙ c.read_guid.ensures) ∙ c.loop-token.invariant)

pub returns : goal.returns
returns c =
    let tokens = c.args.tokens.now in
    ap (λ (l : List ℕ). Some l) c.from_vec.ensures
    ∙ sym (all_read guid_of tokens c.loop-token.token-index c.loop-token.guids.items c.loop-token-test.false)
    ∙ c.loop-token.invariant
    ∙ sym (many_read 2 guid_of tokens (omega arith) (omega arith))

pub returns-in_default : goal.returns-in_default
returns-in_default c =
    let tokens = c.args.tokens.now in
    not_read guid_of tokens c.loop-token.token-index c.loop-token.guids.items _ c.loop-token-test.true (sym c.in_default.is ∙ c.read_guid.ensures)
    ∙ c.loop-token.invariant
    ∙ sym (many_read 2 guid_of tokens (omega arith) (omega arith))
