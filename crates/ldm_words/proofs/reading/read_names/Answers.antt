use Rattle.std.proofs.Common.{◌∙◌, List, Some, sym, ap, arith}
use Rattle.ldm_bytes.specs.declared.bytes.Bytes.{Bytes}
use Rattle.ldm_words.specs.Names.{name_of}
use Rattle.ldm_words.proofs.CommandLaws.{next_read, not_read, all_read, many_read}
use Rattle.ldm_words.proofs.reading.read_names.Goals as goal

pub loop-token-preserved : goal.loop-token-preserved
loop-token-preserved c =
    rw c.in_ok-push.ensures.items (next_read name_of c.args.tokens.now c.loop-token.token-index c.loop-token.names.items _ c.in-Some.name c.loop-token-test.true (sym c.in-Some.is ∙ c.in_ok-name.ensures.is) ∙ c.loop-token.invariant)

pub returns : goal.returns
returns c =
    let tokens = c.args.tokens.now in
    ap (λ (l : List Bytes). Some l) c.from_vec.ensures
    ∙ sym (all_read name_of tokens c.loop-token.token-index c.loop-token.names.items c.loop-token-test.false)
    ∙ c.loop-token.invariant
    ∙ sym (many_read c.args.least name_of tokens (omega arith) (omega arith))

pub returns-in_default : goal.returns-in_default
returns-in_default c =
    let tokens = c.args.tokens.now in
    not_read name_of tokens c.loop-token.token-index c.loop-token.names.items _ c.loop-token-test.true (sym c.in_default.is ∙ c.in_ok-name.ensures.is)
    ∙ c.loop-token.invariant
    ∙ sym (many_read c.args.least name_of tokens (omega arith) (omega arith))
