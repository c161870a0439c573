use Rattle.std.proofs.Common.{ap, ◌∙◌, ◌++◌, drop, length, List, ℕ, arith}
use Rattle.ldm_bytes.proofs.GuidLaws.{own_len, own_is, guid_again}
use Rattle.ldm_bytes.proofs.guid.write_guid.Goals as goal

pub put_text-requires-clause-whole : goal.put_text-requires-clause-whole
put_text-requires-clause-whole c =
    let text = c.as_bytes.ensures.value ∙ c.encode_lower-text.ensures.text in
    ap length text ∙ own_len c.hyphenated-id.result

pub returns-clause-written : goal.returns-clause-written
returns-clause-written c =
    let text = c.as_bytes.ensures.value ∙ c.encode_lower-text.ensures.text in
    c.put_text.ensures ∙ ap (λ (t : List ℕ). t ++ drop 36 c.args.out.now) (text ∙ own_is c.args.guid c.hyphenated-id.result (c.hyphenated-id.ensures ∙ c.from_u128.ensures))

pub returns-clause-reads_back : goal.returns-clause-reads_back
returns-clause-reads_back c = guid_again c.args.guid (omega arith)
