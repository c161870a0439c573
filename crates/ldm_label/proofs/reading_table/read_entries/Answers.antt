use Rattle.std.proofs.Common.{cond, Option, Some, None, ◌≡◌, ◌*◌, ◌-◌, ◌^◌, ◌∙◌, ap, refl, sym, arith, ℕ}
use Rattle.std.specs.Prelude.{bit_xor}
use Rattle.ldm_host.specs.Seen.{image}
use Rattle.ldm_host.proofs.Relations.{looks_then}
use Rattle.ldm_crc32.specs.Crc32.{with_bytes}
use Rattle.std.specs.Option.{option_or}
use Rattle.ldm_label.specs.declared.gpt.Partition.{Partition}
use Rattle.ldm_label.specs.Gpt.{is_metadata, entry_bytes, partition_of, metadata_in}
use Rattle.ldm_label.proofs.GptLaws.{checksum_next, metadata_next}
use Rattle.ldm_label.proofs.reading_table.read_entries.Goals as goal

pub loop-k-preserved : goal.loop-k-preserved
loop-k-preserved g c = record {
  looks = looks_then c.loop-k.invariant.looks c.in_ok-entry.ensures.looks (λ is. absurd is);
  checksum = λ tells.
      let disk = image (g.H.Host.seen c.args.host.now).content c.args.disk in
      let there : c.in_ok-entry.entry ≡ entry_bytes c.args.header.now disk c.loop-k.k = rw c.loop-k.invariant.looks.still.content at (c.in_ok-entry.ensures.bytes tells) in
      c.update.ensures ∙ ap (λ (r : ℕ). with_bytes r c.in_ok-entry.entry) (c.loop-k.invariant.checksum tells)
      ∙ checksum_next (2 ^ 32 - 1) disk c.in_ok-entry.entry (512 * c.args.header.now.entries_start) c.loop-k.k there;
  metadata = λ tells.
      let disk = image (g.H.Host.seen c.args.host.now).content c.args.disk in
      let there : c.in_ok-entry.entry ≡ entry_bytes c.args.header.now disk c.loop-k.k = rw c.loop-k.invariant.looks.still.content at (c.in_ok-entry.ensures.bytes tells) in
      let is : c.read.result ≡ partition_of (entry_bytes c.args.header.now disk c.loop-k.k) = c.read.ensures ∙ ap partition_of there in
      let before = c.loop-k.invariant.metadata tells in
      c.behind-metadata.ensures ∙ ap (λ (found : Option Partition). option_or found (cond (is_metadata c.read.result) (Some c.read.result) None)) before ∙ sym (metadata_next c.args.header.now disk c.loop-k.k c.read.result is);
}

pub returns-in_err-entry-clause-looks : goal.returns-in_err-entry-clause-looks
returns-in_err-entry-clause-looks g c = looks_then c.loop-k.invariant.looks c.in_err-entry.ensures.looks (λ is. refl)

pub returns-clause-is : goal.returns-clause-is
unfolding metadata_in
returns-clause-is g c tells =
    let all : c.loop-k.k ≡ c.args.header.now.entries = omega arith in
    let disk = image (g.H.Host.seen c.args.host.now).content c.args.disk in
    let sum = rw all at (c.loop-k.invariant.checksum tells) in
    (c.value.ensures ∙ ap (λ (r : ℕ). bit_xor r (2 ^ 32 - 1)) sum, rw all at (c.loop-k.invariant.metadata tells))
