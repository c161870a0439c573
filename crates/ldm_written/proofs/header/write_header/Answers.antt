use Rattle.std.proofs.Common.{◌≡◌, ◌++◌, ◌∙◌, ap, List, ℕ, length, arith}
use Rattle.byteorder.specs.Endian.{big_bytes}
use Rattle.ldm_bytes.specs.Places.{put}
use Rattle.ldm_bytes.proofs.PlaceLaws.{put-put, length-put}
use Rattle.ldm_written.specs.Headers.{written, counts_bytes}
use Rattle.ldm_vmdb.specs.Headers.{vmdb_fault}
use Rattle.ldm_vmdb.specs.Sectors.{last_of, group_name, group_guid, sequence_of, carried}
use Rattle.ldm_written.proofs.ReadBackLaws.{plain_last, plain_name, plain_guid, plain_sequence, plain_carried, plain_fault, plain}
use Rattle.ldm_written.proofs.header.write_header.Goals as goal

pub returns-clause-bytes : goal.returns-clause-bytes
unfolding written
returns-clause-bytes c =
    let raw = c.args.header.now.raw in
    let first = put raw 4 (big_bytes 4 c.args.header.now.last) in
    let s = big_bytes 8 c.args.seq in
    let n = counts_bytes c.args.counts in
    let whole : length raw ≡ 512 = omega arith in
    let size : length first ≡ 512 = length-put raw 4 (big_bytes 4 c.args.header.now.last) (omega arith) ∙ whole in
    c.put_counts-2.ensures
    ∙ ap (λ (l : List ℕ). put l 0xA1 n)
    (c.put_counts.ensures
    ∙ ap (λ (l : List ℕ). put l 0x85 n) (c.put_u64-2.ensures ∙ ap (λ (l : List ℕ). put l 0x7D s) (c.put_u64.ensures ∙ ap (λ (l : List ℕ). put l 0x75 s) (c.put_u32.ensures ∙ ap (λ (l : List ℕ). put l 4 (big_bytes 4 c.args.header.now.last)) c.copy_carried.ensures)) ∙ put-put first 0x75 s s (omega arith))
    ∙ put-put first 0x75 (s ++ s) n (omega arith))

pub returns-clause-reads_back : goal.returns-clause-reads_back
unfolding written
returns-clause-reads_back c =
    let h = c.args.header.now in
    let whole : length h.raw ≡ 512 = omega arith in
    let is : c.put_counts-2.new.out ≡ plain h.last h.name h.guid h.raw h.kept (omega arith) c.args.seq (omega arith) c.args.counts =
    returns-clause-bytes c in
    record {
      last_is = ap last_of is ∙ plain_last h.last h.name h.guid h.raw h.kept (omega arith) c.args.seq (omega arith) c.args.counts;
      seq_is = ap sequence_of is ∙ plain_sequence h.last h.name h.guid h.raw h.kept (omega arith) c.args.seq (omega arith) c.args.counts;
      name_is = ap group_name is ∙ plain_name h.last h.name h.guid h.raw h.kept (omega arith) c.args.seq (omega arith) c.args.counts;
      guid_is = ap group_guid is ∙ plain_guid h.last h.name h.guid h.raw h.kept (omega arith) c.args.seq (omega arith) c.args.counts;
      raw_is = ap carried is ∙ plain_carried h.last h.name h.guid h.raw h.kept (omega arith) c.args.seq (omega arith) c.args.counts;
    }

pub returns-clause-no_fault : goal.returns-clause-no_fault
unfolding written
returns-clause-no_fault c = λ area fits.
    let h = c.args.header.now in
    let whole : length h.raw ≡ 512 = omega arith in
    let is = returns-clause-bytes c in
    ap (λ (l : List ℕ). vmdb_fault l area) is ∙ plain_fault h.last h.name h.guid h.raw h.kept (omega arith) c.args.seq (omega arith) c.args.counts area fits
