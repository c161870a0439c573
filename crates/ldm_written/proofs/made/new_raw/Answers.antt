use Rattle.std.proofs.Common.{ℕ, List, ◌∙◌, ap, replicate}
use Rattle.std.specs.Prelude.{codes}
use Rattle.std.proofs.lemmas.List.{append-nil}
use Rattle.byteorder.specs.Endian.{big_bytes}
use Rattle.ldm_bytes.specs.Guid.{own_guid}
use Rattle.ldm_bytes.specs.Places.{put, put_each}
use Rattle.ldm_written.specs.Made.{new_raw}
use Rattle.ldm_written.proofs.made.new_raw.Goals as goal

pub returns : goal.returns
unfolding new_raw put_each
returns c =
    let name = c.args.name.now in
    let magic = c.put_bytes.ensures in
    let size = c.put_u32.ensures ∙ ap (λ (l : List ℕ). put l 0x08 (big_bytes 4 128)) magic in
    let offset = c.put_u32-2.ensures ∙ ap (λ (l : List ℕ). put l 0x0C (big_bytes 4 512)) size in
    let status = c.put_u16.ensures ∙ ap (λ (l : List ℕ). put l 0x10 (big_bytes 2 1)) offset in
    let major = c.put_u16-2.ensures ∙ ap (λ (l : List ℕ). put l 0x12 (big_bytes 2 4)) status in
    let minor = c.put_u16-3.ensures ∙ ap (λ (l : List ℕ). put l 0x14 (big_bytes 2 10)) major in
    let named = c.put_bytes-2.ensures ∙ ap (λ (l : List ℕ). put l 0x16 name) minor in
    let text = c.write_guid.ensures.written ∙ append-nil (own_guid c.args.guid) in
    c.put_bytes-3.ensures ∙ ap (λ (l : List ℕ). put l 0x35 c.write_guid.new.out) named
    ∙ ap (put (put (put (put (put (put (put (put (replicate 512 0) 0 (codes "VMDB")) 0x08 (big_bytes 4 128)) 0x0C (big_bytes 4 512)) 0x10 (big_bytes 2 1)) 0x12 (big_bytes 2 4)) 0x14 (big_bytes 2 10)) 0x16 name) 0x35) text
