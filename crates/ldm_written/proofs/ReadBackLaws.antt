-- What is written for a header reads back.
use Rattle.std.proofs.Common.{◌≡◌, inl, ℕ, ◌+◌, ◌*◌, ◌^◌, ◌<◌, ◌≤◌, List, ◌++◌, length, get_or, Some, None, refl, sym, ◌∙◌, ap, arith, drop}
use Rattle.byteorder.specs.Endian.{big_bytes, big_number}
use Rattle.byteorder.specs.Numbers.{big_number-reads_back}
use Rattle.ldm_bytes.specs.Places.{put}
use Rattle.ldm_bytes.proofs.PlaceLaws.{length-put, drop-put, get_or-put_outside, same_number_at}
use Rattle.ldm_written.specs.declared.header.Counts.{Counts}
use Rattle.ldm_vmdb.specs.Sectors.{last_of, group_guid, group_name, sequence_of, carried, IsKeptHeader}
use Rattle.ldm_vmdb.specs.Headers.{vmdb_fault}
use Rattle.ldm_written.specs.Headers.{counts_bytes}
use Rattle.ldm_vmdb.proofs.HeaderLaws.{Early, same_vmdb, same_guid, same_name, same_carried, length-changed, lasting_stays, vmdb_without_fault}

-- the sector that is written for carried bytes that keep these facts
module _ (last : ℕ) (name : List ℕ) (guid : ℕ) (raw : List ℕ) (kept : IsKeptHeader name guid raw) (low : last < 2 ^ 32) (seq : ℕ) (fits : seq < 2 ^ 64) (counts : Counts) where
  abbrev pub front : List ℕ
  front = big_bytes 8 seq ++ (big_bytes 8 seq ++ counts_bytes counts)

  abbrev pub plain : List ℕ
  plain = put (put (put raw 0x04 (big_bytes 4 last)) 0x75 front) 0xA1 (counts_bytes counts)

  sizes : length plain ≡ length raw
  sizes = length-changed raw (big_bytes 4 last) front (counts_bytes counts) kept.size refl refl refl ∙ sym kept.size

  same : (k : ℕ) → Early k → get_or plain k 0 ≡ get_or raw k 0
  same k early = lasting_stays raw (big_bytes 4 last) front (counts_bytes counts) kept.size refl refl refl k (inl early)

  pub plain_last : last_of plain ≡ last
  unfolding last_of
  plain_last =
      let one : length (put raw 0x04 (big_bytes 4 last)) ≡ 512 = length-put raw 0x04 (big_bytes 4 last) (omega (arith, kept.size)) ∙ kept.size in
      let two : length (put (put raw 0x04 (big_bytes 4 last)) 0x75 front) ≡ 512 = length-put (put raw 0x04 (big_bytes 4 last)) 0x75 front (omega (arith, one)) ∙ one in
      same_number_at plain (put raw 0x04 (big_bytes 4 last)) 0x04 4
      (λ k from to. get_or-put_outside (put (put raw 0x04 (big_bytes 4 last)) 0x75 front) 0xA1 (counts_bytes counts) k (omega (arith, two)) (inl (omega arith))
      ∙ get_or-put_outside (put raw 0x04 (big_bytes 4 last)) 0x75 front k (omega (arith, one)) (inl (omega arith)))
      ∙ ap (big_number 4) (drop-put raw 0x04 (big_bytes 4 last) (omega (arith, kept.size)))
      ∙ big_number-reads_back 4 last (drop (0x04 + 4) raw) low

  pub plain_name : group_name plain ≡ name
  plain_name = same_name plain raw sizes same ∙ sym kept.name_is

  pub plain_guid : group_guid plain ≡ Some guid
  plain_guid = same_guid plain raw sizes same ∙ kept.guid_is

  pub plain_carried : carried plain ≡ raw
  plain_carried = same_carried plain raw (sizes ∙ kept.size) kept.size (λ k at. lasting_stays raw (big_bytes 4 last) front (counts_bytes counts) kept.size refl refl refl k at) ∙ kept.is_carried

  pub plain_sequence : sequence_of plain ≡ seq
  unfolding sequence_of
  plain_sequence =
      let first : List ℕ = put raw 0x04 (big_bytes 4 last) in
      let one : length first ≡ 512 = length-put raw 0x04 (big_bytes 4 last) (omega (arith, kept.size)) ∙ kept.size in
      let two : length (put first 0x75 front) ≡ 512 = length-put first 0x75 front (omega (arith, one)) ∙ one in
      same_number_at plain (put first 0x75 front) 0x75 8 (λ k from to. get_or-put_outside (put first 0x75 front) 0xA1 (counts_bytes counts) k (omega (arith, two)) (inl (omega arith)))
      ∙ ap (big_number 8) (drop-put first 0x75 front (omega (arith, one)))
      ∙ big_number-reads_back 8 seq ((big_bytes 8 seq ++ counts_bytes counts) ++ drop (0x75 + length front) first) fits

  pub plain_fault : (area : ℕ) → last ≤ 4 * area → vmdb_fault plain area ≡ None
  plain_fault area le = vmdb_without_fault plain area guid (same_vmdb plain raw sizes same ∙ kept.is_header) (omega (arith, plain_last)) plain_guid
