-- One number more, and one record more.
use Rattle.std.proofs.Common.{◌≡◌, ◌∙◌, ℕ, zero, suc, ◌+◌, ◌<◌, ◌==◌, length, take, get_or, Bool, true, false, cond, List, [], ◌∷◌, ◌++◌, Option, Some, None, refl, ap, sym, append_assoc, arith}
use Rattle.std.specs.List.{flat_map, range_with_len}
use Rattle.std.specs.Option.{option_map, option_or}
use Rattle.std.proofs.lemmas.List.{append-nil, take_more}
use Rattle.ldm_records.specs.declared.types.Record.{Record}
use Rattle.ldm_records.specs.declared.types.Record.TheVariants as kinds
use Rattle.ldm_records.specs.declared.types.Disk.{Disk}
use Rattle.ldm_group.specs.Looks.{by_id, disk_in}
use Rattle.ldm_label.specs.declared.Label.{Label}
use Rattle.ldm_look.specs.declared.mapped.MappedDisk.{MappedDisk}
use Rattle.ldm_look.specs.Map.{mapped_disk, mapped_at}

-- ---- numbers

flat_suc : (f : ℕ → List ℕ) (a n j : ℕ) → a + n ≡ j → flat_map f (range_with_len a (suc n)) ≡ flat_map f (range_with_len a n) ++ f j
flat_suc f a zero j e = append-nil (f a) ∙ ap f (omega arith)
flat_suc f a (suc n) j e =
    ap (λ (t : List ℕ). f a ++ t) (flat_suc f (a + 1) n j (omega arith))
    ∙ sym (append_assoc (f a) (flat_map f (range_with_len (a + 1) n)) (f j))

pub numbers_more : (f : ℕ → List ℕ) (a n j : ℕ) (start old new : List ℕ) → a + n ≡ j
    → old ≡ start ++ flat_map f (range_with_len a n) → new ≡ old ++ f j → new ≡ start ++ flat_map f (range_with_len a (n + 1))
numbers_more f a n j start old new at before after = grind (arith, append_assoc, flat_suc)

-- ---- disks

kept : (b : Bool) (f : Disk → MappedDisk) (d : Disk) (more few : Option Record) (y : Option MappedDisk) → option_map f (disk_in more) ≡ option_or (option_map f (disk_in few)) y
    → option_map f (disk_in (cond b (Some (kinds.Disk d)) more)) ≡ option_or (option_map f (disk_in (cond b (Some (kinds.Disk d)) few))) y
kept true f d more few y h = refl
kept false f d more few y h = h

push_record : (labels : List Label) (id : ℕ) (rs : List Record) (r : Record) → mapped_at labels (rs ++ r ∷ []) id ≡ option_or (mapped_at labels rs id) (mapped_at labels (r ∷ []) id)
push_record labels id [] r = refl
push_record labels id (kinds.Group g ∷ rs) r = push_record labels id rs r
push_record labels id (kinds.Disk d ∷ rs) r =
    kept (d.head.id == id) (mapped_disk labels) d (by_id 2 id (rs ++ r ∷ [])) (by_id 2 id rs) (mapped_at labels (r ∷ []) id) (push_record labels id rs r)
push_record labels id (kinds.Volume v ∷ rs) r = push_record labels id rs r
push_record labels id (kinds.Component c ∷ rs) r = push_record labels id rs r
push_record labels id (kinds.Partition p ∷ rs) r = push_record labels id rs r

alone : (b : Bool) (f : Disk → MappedDisk) (d : Disk) → cond b (Some (f d)) None ≡ option_map f (disk_in (cond b (Some (kinds.Disk d)) None))
alone true f d = refl
alone false f d = refl

record_more : (labels : List Label) (id : ℕ) (rs : List Record) (i : ℕ) (r : Record) → i < length rs → r ≡ get_or rs i r
    → mapped_at labels (take (i + 1) rs) id ≡ option_or (mapped_at labels (take i rs) id) (mapped_at labels (r ∷ []) id)
record_more labels id rs i r lt is =
    ap (λ (xs : List Record). mapped_at labels xs id) (take_more rs i r lt) ∙ push_record labels id (take i rs) (get_or rs i r)
    ∙ ap (λ (x : Record). option_or (mapped_at labels (take i rs) id) (mapped_at labels (x ∷ []) id)) (sym is)

pub more_disk : (labels : List Label) (id : ℕ) (rs : List Record) (i : ℕ) (r : Record) (d : Disk) (m : MappedDisk) (old new : Option MappedDisk) → i < length rs → r ≡ get_or rs i r
    → r ≡ kinds.Disk d → m ≡ mapped_disk labels d → new ≡ option_or old (cond (d.head.id == id) (Some m) None)
    → old ≡ mapped_at labels (take i rs) id → new ≡ mapped_at labels (take (i + 1) rs) id
more_disk labels id rs i r d m old new lt is disk m-is put h =
    put ∙ ap (λ (n : MappedDisk). option_or old (cond (d.head.id == id) (Some n) None)) m-is
    ∙ ap (option_or old) (alone (d.head.id == id) (mapped_disk labels) d)
    ∙ ap (λ (o : Option MappedDisk). option_or o (mapped_at labels (kinds.Disk d ∷ []) id)) h
    ∙ ap (λ (x : Record). option_or (mapped_at labels (take i rs) id) (mapped_at labels (x ∷ []) id)) (sym disk)
    ∙ sym (record_more labels id rs i r lt is)

no_disk : (labels : List Label) (id : ℕ) (r : Record) → ((d : Disk) → r ≡ kinds.Disk d → ⊥) → mapped_at labels (r ∷ []) id ≡ None
no_disk labels id (kinds.Disk d) h = absurd (h d refl)
no_disk labels id (kinds.Group g) h = refl
no_disk labels id (kinds.Volume v) h = refl
no_disk labels id (kinds.Component c) h = refl
no_disk labels id (kinds.Partition p) h = refl

or_none : (a : Option MappedDisk) → option_or a None ≡ a
or_none None = refl
or_none (Some m) = refl

pub more_other : (labels : List Label) (id : ℕ) (rs : List Record) (i : ℕ) (r : Record) (old : Option MappedDisk) → i < length rs → r ≡ get_or rs i r
    → ((d : Disk) → r ≡ kinds.Disk d → ⊥) → old ≡ mapped_at labels (take i rs) id → old ≡ mapped_at labels (take (i + 1) rs) id
more_other labels id rs i r old lt is other h =
    h ∙ sym (or_none (mapped_at labels (take i rs) id))
    ∙ ap (option_or (mapped_at labels (take i rs) id)) (sym (no_disk labels id r other))
    ∙ sym (record_more labels id rs i r lt is)
