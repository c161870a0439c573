use Rattle.std.proofs.Common.{All, get_or, arith}
use Rattle.ldm_written.specs.Written.{slot, IsPlaced, laid_in_order}
use Rattle.ldm_written.proofs.HoldLaws.{in_order_within, placed_kept, order_holds}
use Rattle.ldm_written.proofs.splitting.write_all.Goals as goal

pub returns : goal.returns
returns c =
    let payloads = c.args.payloads.now in
    let before = c.write_records-next.new.out in
    let after = c.write_rest.new.out in
    let next = c.write_records-next.ensures.next in
    let placed : All (IsPlaced after) (laid_in_order 4 payloads) = λ k d lt.
    placed_kept before after (get_or (laid_in_order 4 payloads) k d) c.write_rest.auto.out (λ i li.
    let within = in_order_within 4 payloads k d lt i li in
    let low = within.0 in
    let high = within.1 in
    c.write_rest.ensures.below (slot (get_or (laid_in_order 4 payloads) k d) i) low (omega arith)) (c.write_records-next.ensures.placed k d lt) in
    order_holds after payloads c.requires.sized placed (λ b from lt. c.write_rest.ensures.unused b (omega arith) (omega arith))
