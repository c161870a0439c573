use Rattle.std.proofs.Common.{◌+◌, ◌++◌, List, ℕ, ap, ◌∙◌, arith}
use Rattle.byteorder.specs.Endian.{big_bytes}
use Rattle.ldm_bytes.specs.Places.{put}
use Rattle.ldm_bytes.proofs.PlaceLaws.{put-put}
use Rattle.ldm_written.proofs.header.put_counts.Goals as goal

pub returns : goal.returns
returns c =
    let old = c.args.out.now in
    let at = c.args.at in
    let v = big_bytes 4 c.args.counts.volumes in
    let k = big_bytes 4 c.args.counts.components in
    let p = big_bytes 4 c.args.counts.partitions in
    let d = big_bytes 4 c.args.counts.disks in
    c.put_u32-4.ensures
    ∙ ap (λ (l : List ℕ). put l (at + 12) d) (c.put_u32-3.ensures ∙ ap (λ (l : List ℕ). put l (at + 8) p) (c.put_u32-2.ensures ∙ ap (λ (l : List ℕ). put l (at + 4) k) c.put_u32.ensures ∙ put-put old at v k (omega arith)) ∙ put-put old at (v ++ k) p (omega arith))
    ∙ put-put old at ((v ++ k) ++ p) d (omega arith)
