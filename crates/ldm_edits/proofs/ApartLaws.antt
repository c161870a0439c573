-- A group whose own record and those of its disks stand apart: all other records are as if they were added to these.
use Rattle.std.proofs.Common.{◌^◌, ◌≡◌, ℕ, ◌++◌, ◌<◌, ◌==◌, refl, sym, ap, subst, ◌∙◌, true, false, Bool, List, get_or, filter}
use Rattle.ldm_edits.proofs.Common.{Record, Header, grown_to, Database, max_id, HasSameDisks, Rising, kind_of, place_of, in_order, own_len, need_of, taken_in, AreMapsOf}
use Rattle.std.specs.List.{Contains}
use Rattle.std.specs.List.Sorted.{IsPermutation}
use Rattle.std.proofs.lemmas.List.Elements.{Contains-get_or}
use Rattle.std.proofs.lemmas.List.Kept.{AllPairs-filter}
use Rattle.std.proofs.lemmas.List.Sorted.{Contains-permutation, IsPermutation-append_left, IsPermutation-filter_both, IsPermutation-refl, IsPermutation-sym, IsPermutation-trans, sum_by-IsPermutation}
use Rattle.ldm_records.specs.declared.types.Record.TheVariants as kinds
use Rattle.ldm_vmdb.specs.Headers.{with_seq}
use Rattle.ldm_vmdb.specs.Parts.{parts_of as blocks_in}
use Rattle.ldm_group.specs.Database.{IsDatabaseOf}
use Rattle.ldm_group.proofs.InOrder.{one_next}
use Rattle.ldm_group.proofs.KinLaws.{filter_has, filter_keeps, kin_same}
use Rattle.ldm_edits.specs.declared.additions.Additions.{Additions}
use Rattle.ldm_edits.specs.Additions.{AreAdditions, with_added}
use Rattle.ldm_edits.specs.Replacing.{AreFront, stands_in}
use Rattle.ldm_group.proofs.AddedLaws.{max_same, rises_again}

-- the record of the group and those of its disks rise
pub heads_rise : (front : Bool) (records : List Record) → Rising records → Rising (in_order (filter (stands_in front) records))
heads_rise front records up = rises_again _ _ (IsPermutation-refl _) (AllPairs-filter (λ a b. place_of a < place_of b) (stands_in front) records up)

disk_front : (r : Record) → (kind_of r == 2) ≡ true → stands_in true r ≡ true
disk_front (kinds.Disk d) is = refl
disk_front (kinds.Group g) is = absurd cc
disk_front (kinds.Volume v) is = absurd cc
disk_front (kinds.Component c) is = absurd cc
disk_front (kinds.Partition p) is = absurd cc

module _ (db front : Database) (a : Additions) (head : Header) (up : Rising db.records)
    (is : IsDatabaseOf front head (filter (stands_in true) db.records)) (rest : a.records.items ≡ filter (stands_in false) db.records) where
  both : IsPermutation (front.records ++ a.records.items) db.records
  both = subst (λ (l : List Record). IsPermutation (front.records ++ l) db.records) (sym rest)
      (IsPermutation-sym _ _ (IsPermutation-trans db.records (filter (stands_in true) db.records ++ filter (stands_in false) db.records) _
      (IsPermutation-filter_both (stands_in true) (stands_in false) (λ r. refl) db.records)
      (IsPermutation-append_left (filter (stands_in false) db.records) _ front.records is.same)))

  rises : Rising (in_order (front.records ++ a.records.items))
  rises = rises_again _ db.records both up

  whole : db.records ≡ in_order (front.records ++ a.records.items)
  whole = one_next _ db.records both up rises

  front_has : (r : Record) → Contains front.records r → Contains db.records r × (stands_in true r ≡ true)
  front_has r at = filter_has (stands_in true) db.records r (Contains-permutation front.records _ r (IsPermutation-sym _ _ is.same) at)

  pub apart_front : AreFront front.records
  apart_front k d lt = (front_has (get_or front.records k d) (Contains-get_or front.records k d lt)).1

  disks : HasSameDisks front.records db.records
  disks = kin_same (λ r. kind_of r == 2) front.records db.records is.rising up (λ r h at. (front_has r at).0)
      (λ r h at. Contains-permutation _ front.records r is.same (filter_keeps (stands_in true) db.records r at (disk_front r h)))

  pub apart_additions : AreMapsOf a.maps (taken_in (front.records ++ a.records.items)) → a.need ≡ need_of db.records → a.max_id ≡ max_id db.records
      → a.last < 2 ^ 32 → AreAdditions front.records a
  apart_additions maps need top low = record {
    rising = rises;
    disks = subst (HasSameDisks front.records) whole disks;
    maps = maps;
    need = need ∙ sum_by-IsPermutation (λ (r : Record). blocks_in (own_len r)) _ _ both;
    max_id = top ∙ sym (max_same _ _ both);
    low = low;
  }

  pub apart_whole : (seq : ℕ) → head ≡ with_seq db.header seq → seq ≡ db.header.seq → a.last ≡ db.header.last → with_added front a ≡ db
  apart_whole seq head_is seq_is last_is =
      let header : front.header ≡ db.header = is.header_is ∙ head_is ∙ ap (with_seq db.header) seq_is in
      λ i. record { header = grown_to (header i) (last_is i) (ap (λ (h : Header). h.seq) header i); records = sym whole i }
