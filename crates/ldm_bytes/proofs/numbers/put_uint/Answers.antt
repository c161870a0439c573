use Rattle.std.proofs.Common.{ℕ, ◌+◌, ◌++◌, take, drop, ap, ◌∙◌, sym}
use Rattle.byteorder.specs.Endian.{big_bytes}
use Rattle.byteorder.specs.Numbers.{length-bytes_high_first}
use Rattle.ldm_bytes.proofs.Written.{written}
use Rattle.ldm_bytes.proofs.numbers.put_uint.Goals as goal

pub returns : goal.returns
returns c =
    written c.args.buf.now c.args.at c.args.count _ c.write_uint.new.buf c.requires.room c.write_uint.ensures
    ∙ ap (λ (n : ℕ). take c.args.at c.args.buf.now ++ big_bytes c.args.count c.args.v ++ drop (c.args.at + n) c.args.buf.now) (sym (length-bytes_high_first c.args.count c.args.v))
