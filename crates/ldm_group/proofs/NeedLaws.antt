-- The own spellings of a database's records, as payloads of blocks.
use Rattle.std.proofs.Common.{◌≡◌, ◌+◌, ◌≤◌, List, [], ◌∷◌, length, map, refl, ap, sym, ◌∙◌, arith}
use Rattle.std.specs.List.{All}
use Rattle.std.proofs.lemmas.List.Sums.{sum_by-cons}
use Rattle.std.proofs.lemmas.List.Elements.{All-nil, All-cons, All-head, All-tail}
use Rattle.ldm_records.specs.declared.types.Record.{Record}
use Rattle.ldm_records.specs.Plain.{Plain, own_spelling}
use Rattle.ldm_records.specs.Views.{plain_of}
use Rattle.ldm_vmdb.specs.Parts.{parts_of, IsSized, blocks_needed}
use Rattle.ldm_group.specs.Room.{own_len, IsFitting, need_of}

-- the payloads take as many blocks as the records need
pub need_of-spellings : (records : List Record) → blocks_needed (map (λ r. own_spelling (plain_of r)) records) ≡ need_of records
unfolding own_len
need_of-spellings [] = refl
need_of-spellings (r ∷ rest) =
    sum_by-cons (λ bytes. parts_of (length bytes)) (own_spelling (plain_of r)) (map (λ s. own_spelling (plain_of s)) rest)
    ∙ ap (λ n. parts_of (own_len r) + n) (need_of-spellings rest)
    ∙ sym (sum_by-cons (λ s. parts_of (own_len s)) r rest)

-- an own spelling has its head at least
own_spelling-some : (p : Plain) → 1 ≤ length (own_spelling p)
own_spelling-some p = omega arith

-- each record takes a block at least
pub few_records : (records : List Record) → length records ≤ need_of records
unfolding own_len
few_records [] = omega arith
few_records (r ∷ records) =
    let some : 1 ≤ own_len r = own_spelling-some (plain_of r) in
    let here : 1 ≤ parts_of (own_len r) = omega arith in
    let rest : length records ≤ need_of records = few_records records in
    omega (arith, sum_by-cons (λ (r : Record). parts_of (own_len r)) r records)

-- each spelling may be written where the records fit
pub sized_spellings : (records : List Record) → All IsFitting records → All IsSized (map (λ r. own_spelling (plain_of r)) records)
unfolding own_len
sized_spellings [] fitting = All-nil IsSized
sized_spellings (r ∷ rest) fitting =
    All-cons IsSized (own_spelling (plain_of r)) (map (λ s. own_spelling (plain_of s)) rest)
    (own_spelling-some (plain_of r), All-head IsFitting r rest fitting)
    (sized_spellings rest (All-tail IsFitting r rest fitting))
