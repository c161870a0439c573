use Rattle.std.proofs.Common.{◌≡◌, ◌*◌, ◌∙◌, List, ℕ, ap, sym, subst, length, map, arith}
use Rattle.std.proofs.lemmas.List.{with_items_is}
use Rattle.ldm_frags.specs.Joins.{Joins}
use Rattle.ldm_written.specs.Written.{Holds, laid_in_order, joined_of}
use Rattle.ldm_written.proofs.HoldLaws.{order_joins}
use Rattle.ldm_written.proofs.splitting.split.Goals as goal

-- the bytes are those that were written
written : (c : goal.After-from_vec) → c.from_vec.result ≡ c.write_all.new.out
written c = c.from_vec.ensures ∙ with_items_is c.resize.new.self c.write_all.new.out (c.write_all.auto.out ∙ c.deref_mut.ensures.len)

length_is : (c : goal.After-from_vec) → length c.write_all.new.out ≡ 128 * c.args.blocks
length_is c = c.write_all.auto.out ∙ c.deref_mut.ensures.len ∙ c.in_ok-resize.ensures.len

pub returns-clause-answers : goal.returns-clause-answers
returns-clause-answers c =
    let payloads = c.args.payloads.now in
    let need = c.need_of-need.ensures in
    let have = c.from-have.ensures in
    (omega arith, ap length (written c) ∙ length_is c, subst (λ (out : List ℕ). Holds out (laid_in_order 4 payloads)) (sym (written c)) c.write_all.ensures)

pub returns-clause-joins : goal.returns-clause-joins
returns-clause-joins c =
    let payloads = c.args.payloads.now in
    let len = length_is c in
    subst (λ (out : List ℕ). Joins out (map joined_of (laid_in_order 4 payloads))) (sym (written c))
    (order_joins c.write_all.new.out payloads (omega arith) c.requires.sized c.write_all.ensures)
