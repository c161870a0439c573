use Rattle.std.proofs.Common.{subst, set, ◌≡◌, ◌+◌, ℕ, arith}
use Rattle.std.proofs.lemmas.List.{length-set}
use Rattle.byteorder.specs.Endian.{big_bytes}
use Rattle.ldm_bytes.specs.Places.{put}
use Rattle.ldm_bytes.proofs.NumberLaws.{number_written, own_len}
use Rattle.ldm_bytes.proofs.numbers.put_number.Goals as goal

pub returns-clause-written : goal.returns-clause-written
returns-clause-written c =
    let is : c.put_uint.new.buf ≡ put (set c.args.buf.now c.args.at c.width_of-count.result) (c.args.at + 1) (big_bytes c.width_of-count.result c.args.v) = c.put_uint.ensures in
    number_written c.args.buf.now c.args.at c.args.v c.put_uint.new.buf c.requires
    (subst (λ (k : ℕ). c.put_uint.new.buf ≡ put (set c.args.buf.now c.args.at k) (c.args.at + 1) (big_bytes k c.args.v)) c.width_of-count.ensures.value is)

pub put_uint-requires-clause-room : goal.put_uint-requires-clause-room
put_uint-requires-clause-room c =
    omega (arith, own_len c.args.v, c.width_of-count.ensures.value, length-set c.args.buf.now c.args.at c.width_of-count.result)
