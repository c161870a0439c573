-- What the steps of reading a label find: tables of faults, headers, tables of contents, and the label that they make.
use Rattle.std.proofs.Common.{◌≡◌, Bool, true, false, cond, List, [], ◌∷◌, ◌++◌, Option, Some, None, Result, Ok, Err, refl, IsErrAnd, IsErrOf, ap, ◌≢◌, ℕ, ◌+◌, ◌≤◌, ◌||◌, ◌∙◌, sym, ◌<◌, ◌&&◌, length, get_or, drop, arith, drop-cons, add-one, append_assoc, ◌⊎◌, inl, inr}
use Rattle.ldm_bytes.specs.Tables.{first_fault, unless}
use Rattle.ldm_label.specs.declared.LabelFault.{LabelFault}
use Rattle.ldm_label.specs.Answer.{answer, GivesUnlessDisk}
use Rattle.std.proofs.lemmas.Result.{err_from_is_err_and}
use Rattle.ldm_label.specs.declared.LabelError.{LabelError}
use Rattle.ldm_label.specs.declared.LabelError.TheVariants.{Fault, Disk}
use Rattle.std.specs.Prelude.{nat_eq, nat_lt, not, is_none, is_some, unwrap_or, is_ok, slice_get}
use Rattle.std.proofs.lemmas.Bool.{cases_lt, eqb-false, ltb-false, or_parts, eq-eqb, ne_eqb, lt-ltb, le-ltb}
use Rattle.ldm_label.specs.declared.header.PrivateHeader.{PrivateHeader}
use Rattle.ldm_label.specs.declared.toc.Toc.{Toc}
use Rattle.ldm_label.specs.declared.Style.{Style}
use Rattle.ldm_label.specs.declared.gpt.GptBounds.{GptBounds}
use Rattle.ldm_label.specs.declared.table.Table.{Table}
use Rattle.ldm_label.specs.Fields.{is_out_of_range, is_out_of_mbr, is_out_of_gpt, is_out_of_database, is_privhead, has_version, config_size, disk_guid, header_of, same_header, sector, toc_of, same_toc, sectors_of}
use Rattle.ldm_label.specs.Parts.{GptFits, TableFits, HeaderFits, TocFits, joined_tables, in_database}
use Rattle.ldm_label.specs.declared.LabelFault.TheVariants.{NoPrivhead, Version, DatabaseSize, Range, Guid, TocsDiffer, TocRange, Short}
use Rattle.ldm_label.specs.LabelOf.{header_faults, differs, toc_faults, tocs_in, some_differ, first_toc, label_of, label_from, table_faults, disk_table, table_style, header_at, copy_faults, AreSeparate}
use Rattle.std.specs.List.{cons_option, filter_map, list_any}
use Rattle.std.proofs.lemmas.List.{drop_all, append-nil}
use Rattle.std.proofs.lemmas.Bool.Decides.{nat_tests}
use Rattle.ldm_label.specs.declared.Label.{Label}

-- ---- The first fault of a table that is another table and then more rows.

row_err : {A B : Type 0} (there : Bool) (fault first : LabelFault) (x y : Option LabelFault) (a : A) (b : B)
    → (unless x a ≡ Err first → unless y b ≡ Err first) → unless (cond there (Some fault) x) a ≡ Err first → unless (cond there (Some fault) y) b ≡ Err first
row_err true fault first x y a b h e = cc
row_err false fault first x y a b h e = h e

-- the first fault of the front is the first of all
pub front_err : {A B : Type 0} (front rest : List (LabelFault × Bool)) (a : A) (b : B) (first : LabelFault)
    → answer front a ≡ Err first → answer (front ++ rest) b ≡ Err first
front_err [] rest a b first e = absurd cc
front_err (row ∷ front) rest a b first e = row_err row.1 row.0 first (first_fault front) (first_fault (front ++ rest)) a b (front_err front rest a b first) e

row_ok : {A B : Type 0} (there : Bool) (fault : LabelFault) (a value : A) (x y : Option LabelFault) (b : B) (z : Result B LabelFault)
    → (unless x a ≡ Ok value → unless y b ≡ z) → unless (cond there (Some fault) x) a ≡ Ok value → unless (cond there (Some fault) y) b ≡ z
row_ok true fault a value x y b z h e = absurd cc
row_ok false fault a value x y b z h e = h e

-- where the front has none, the rest decides
pub front_ok : {A B : Type 0} (front rest : List (LabelFault × Bool)) (a value : A) (b : B)
    → answer front a ≡ Ok value → answer (front ++ rest) b ≡ answer rest b
front_ok [] rest a value b e = refl
front_ok (row ∷ front) rest a value b e = row_ok row.1 row.0 a value (first_fault front) (first_fault (front ++ rest)) b (answer rest b) (front_ok front rest a value b) e

value_row : {A : Type 0} (there : Bool) (fault : LabelFault) (a value : A) (x : Option LabelFault)
    → (unless x a ≡ Ok value → a ≡ value) → unless (cond there (Some fault) x) a ≡ Ok value → a ≡ value
value_row true fault a value x h e = absurd cc
value_row false fault a value x h e = h e

-- where rows of tests answer with a value, it is the one that was handed to them
pub ok_value : {A : Type 0} (rows : List (LabelFault × Bool)) (a value : A) → answer rows a ≡ Ok value → a ≡ value
ok_value [] a value e = cc
ok_value (row ∷ rows) a value e = value_row row.1 row.0 a value (first_fault rows) (ok_value rows a value) e

absent : {A : Type 0} (there : Bool) (fault : LabelFault) (x : Option LabelFault) (a value : A) → unless (cond there (Some fault) x) a ≡ Ok value → (there ≡ false) × (unless x a ≡ Ok value)
absent true fault x a value e = absurd cc
absent false fault x a value e = (refl, e)

-- in a table without a fault neither the front nor the rest has one
pub both_ok : {A : Type 0} (front rest : List (LabelFault × Bool)) (a value : A) → answer (front ++ rest) a ≡ Ok value → (answer front a ≡ Ok a) × (answer rest a ≡ Ok value)
both_ok [] rest a value e = (refl, e)
both_ok (row ∷ front) rest a value e =
    let here = absent row.1 row.0 (first_fault (front ++ rest)) a value e in
    let more = both_ok front rest a value here.1 in
    (rw (here.0) more.0, more.1)

-- nor does its last row
pub last_absent : {A : Type 0} (front : List (LabelFault × Bool)) (fault : LabelFault) (there : Bool) (a value : A) → answer (front ++ (fault, there) ∷ []) a ≡ Ok value → there ≡ false
last_absent front fault there a value e = (absent there fault None a value (both_ok front ((fault, there) ∷ []) a value e).1).0

-- ---- What a step answers where a step of its own ended it.

pub handed_on : {T E : Type 0} (r : Result T E) (e : E) → IsErrAnd r (λ x. x ≡ e) → r ≡ Err e
handed_on r e h = let p = err_from_is_err_and r h in rw (p.1, p.2) refl

pub failed : {A : Type 0} (r : Result A LabelError) (is : Result A LabelFault) → IsErrAnd r (λ e. e ≡ Disk) → GivesUnlessDisk r is
failed r is h = rw (handed_on r Disk h) tt

pub faulty : {A : Type 0} (r : Result A LabelError) (is : Result A LabelFault) (fault : LabelFault) → IsErrAnd r (λ e. e ≡ Fault fault) → is ≡ Err fault → GivesUnlessDisk r is
faulty r is fault h e = rw (handed_on r (Fault fault) h) e

error_passed : {A B : Type 0} (error : LabelError) (first : Result A LabelFault) (is : Result B LabelFault)
    → GivesUnlessDisk {A = A} (Err error) first → ((fault : LabelFault) → first ≡ Err fault → is ≡ Err fault) → GivesUnlessDisk {A = B} (Err error) is
error_passed (Fault fault) first is gives more = more fault gives
error_passed Disk first is gives more = tt

pub passed : {A B : Type 0} (r : Result B LabelError) (error : LabelError) (first : Result A LabelFault) (is : Result B LabelFault)
    → IsErrAnd r (λ e. e ≡ error) → GivesUnlessDisk {A = A} (Err error) first → ((fault : LabelFault) → first ≡ Err fault → is ≡ Err fault) → GivesUnlessDisk r is
passed {A = A} {B = B} r error first is h gives more = rw (handed_on r error h)
    (error_passed {A = A} {B = B} error first is gives more)

-- a fault is no failed call, and a step's own error is the whole call's
pub not_disk : {A : Type 0} (r : Result A LabelError) (fault : LabelFault) → IsErrAnd r (λ e. e ≡ Fault fault) → r ≡ Err Disk → ⊥
not_disk r fault h is = let p = handed_on r (Fault fault) h in cc

pub passed_disk : {A B : Type 0} (r : Result B LabelError) (error : LabelError) → IsErrAnd r (λ e. e ≡ error) → r ≡ Err Disk → IsErrOf {T = A} {E = LabelError} (Err error) Disk
passed_disk {A = A} r error h is = let p = handed_on r error h in let same : error
    ≡ Disk = cc in ap failing same
  where
    failing : LabelError → Result A LabelError
    failing e = Err e

-- ---- What passes its range test fits.

in_range : (size start config n : ℕ) → (nat_eq size 0 || nat_lt config (start + size) || nat_lt config 7 || nat_lt n (config + 2048)) ≡ false
    → (size ≢ 0) × (start + size ≤ config) × (7 ≤ config) × (config + 2048 ≤ n)
in_range size start config n e =
    let last = or_parts (nat_eq size 0 || nat_lt config (start + size) || nat_lt config 7) (nat_lt n (config + 2048)) e in
    let third = or_parts (nat_eq size 0 || nat_lt config (start + size)) (nat_lt config 7) last.0 in
    let first = or_parts (nat_eq size 0) (nat_lt config (start + size)) third.0 in
    (eqb-false size 0 first.0, ltb-false config (start + size) first.1, ltb-false config 7 third.1, ltb-false n (config + 2048) last.1)

mbr_fits : (header : PrivateHeader) (n : ℕ) → is_out_of_mbr header n ≡ false → HeaderFits header Style.Mbr n
unfolding is_out_of_mbr
mbr_fits header n e =
    let r = in_range header.data_size header.data_start header.config_start n e in
    record { some_data = r.0; before = λ _. r.1; apart = inl r.1; within = omega (arith, r.1, r.3); room = r.2; inside = r.3 }

apart_by : (from to a b : ℕ) → (nat_lt from b && nat_lt a to) ≡ false → (b ≤ from) ⊎ (to ≤ a)
apart_by from to a b e = elim (cases_lt from b) [ inl lt ↦ inr (grind (arith, nat_tests)) | inr ge ↦ inl ge ]

pub in_bounds : (size start config first last metadata : ℕ)
    → (nat_eq size 0 || not (nat_eq config metadata) || nat_lt start first || nat_lt (last + 1) (start + size) || (nat_lt config (start + size) && nat_lt start (config + 2048))) ≡ false
    → (size ≢ 0) × (config ≡ metadata) × (first ≤ start) × (start + size ≤ last + 1) × AreSeparate start size config
in_bounds size start config first last metadata e =
    let fifth = or_parts (nat_eq size 0 || not (nat_eq config metadata) || nat_lt start first || nat_lt (last + 1) (start + size)) (nat_lt config (start + size) && nat_lt start (config + 2048)) e in
    let fourth = or_parts (nat_eq size 0 || not (nat_eq config metadata) || nat_lt start first) (nat_lt (last + 1) (start + size)) fifth.0 in
    let third = or_parts (nat_eq size 0 || not (nat_eq config metadata)) (nat_lt start first) fourth.0 in
    let second = or_parts (nat_eq size 0) (not (nat_eq config metadata)) third.0 in
    (eqb-false size 0 second.0, is config metadata second.1, ltb-false start first third.1, ltb-false (last + 1) (start + size) fourth.1, apart_by config (config + 2048) start (start + size) fifth.1)
  where
    is : (a b : ℕ) → not (nat_eq a b) ≡ false → a ≡ b
    is a b h = grind (arith, nat_tests)

gpt_fits : (header : PrivateHeader) (bounds : GptBounds) (n : ℕ) → GptFits bounds n → is_out_of_gpt header bounds ≡ false → HeaderFits header Style.Gpt n
unfolding is_out_of_gpt
gpt_fits header bounds n fits e =
    let r = in_bounds header.data_size header.data_start header.config_start bounds.first_usable bounds.last_usable bounds.metadata e in
    let first = fits.first in
    let behind = fits.behind in
    let before = fits.before in
    let end = fits.end in
    record {
      some_data = r.0;
      before = λ is. absurd (cc is);
      apart = r.4;
      within = omega (arith, r.3, end);
      room = omega (arith, r.1, first, behind);
      inside = omega (arith, r.1, before, end);
    }

pub header_fits : (header : PrivateHeader) (table : Table) (n : ℕ) → TableFits table n → is_out_of_range header table n ≡ false → HeaderFits header (table_style table) n
header_fits header Table.Mbr n fits e = mbr_fits header n e
header_fits header (Table.Gpt bounds) n fits e = gpt_fits header bounds n fits e

in_database_by : (sectors start size log : ℕ)
    → (nat_eq sectors 0 || nat_lt 2048 (start + sectors) || nat_lt 2048 (log + size)) ≡ false
    → (sectors ≢ 0) × (start + sectors ≤ 2048) × (log + size ≤ 2048)
in_database_by sectors start size log e =
    let last = or_parts (nat_eq sectors 0 || nat_lt 2048 (start + sectors)) (nat_lt 2048 (log + size)) e in
    let first = or_parts (nat_eq sectors 0) (nat_lt 2048 (start + sectors)) last.0 in
    (eqb-false sectors 0 first.0, ltb-false 2048 (start + sectors) first.1, ltb-false 2048 (log + size) last.1)

pub toc_fits : (toc : Toc) → is_out_of_database toc ≡ false → TocFits toc
unfolding is_out_of_database
toc_fits toc e =
    let r = in_database_by toc.area_sectors toc.area_start toc.log_sectors toc.log_start e in
    record { some_area = r.0; area = r.1; log = r.2 }

-- ---- The first fault of a private header, by its tests.

pub none_is : (guid : Option ℕ) (none : Bool) → is_some guid ≡ not none → is_none guid ≡ none
none_is (Some g) true e = absurd cc
none_is (Some g) false e = refl
none_is None true e = refl
none_is None false e = absurd cc

module _ {A : Type 0} (head : List ℕ) (table : Table) (n : ℕ) (value : A) where
  pub no_magic : is_privhead head ≡ false → answer (header_faults head table n) value ≡ Err NoPrivhead
  unfolding header_faults
  no_magic magic = rw magic refl

  module _ (magic : is_privhead head ≡ true) where
    pub no_version : has_version head ≡ false → answer (header_faults head table n) value ≡ Err Version
    unfolding header_faults
    no_version version = rw (magic, version) refl

    module _ (version : has_version head ≡ true) where
      pub no_size : config_size head ≢ 2048 → answer (header_faults head table n) value ≡ Err DatabaseSize
      unfolding header_faults
      no_size size = let other = ne_eqb (config_size head) 2048 size in rw (magic, version, other) refl

      module _ (size : config_size head ≡ 2048) where
        pub no_range : is_out_of_range (header_of head) table n ≡ true → answer (header_faults head table n) value ≡ Err Range
        unfolding header_faults
        no_range range = let same = eq-eqb (config_size head) 2048 size in rw (magic, version, same, range) refl

        pub by_guid : is_out_of_range (header_of head) table n ≡ false → (none : Bool) → is_none (disk_guid head) ≡ none → answer (header_faults head table n) value ≡ answer ((Guid, none) ∷ []) value
        unfolding header_faults
        by_guid range none guid = let same = eq-eqb (config_size head) 2048 size in rw (magic, version, same, range, guid) refl

-- ---- What copies 2 and 3 of the private header say.

pub good_differs : (header other : PrivateHeader) (copy : List ℕ) (table : Table) (n : ℕ) → Ok other ≡ answer (header_faults copy table n) (header_of copy)
    → not (same_header header other) ≡ differs header copy table n
unfolding differs
good_differs header other copy table n e =
    let good : is_ok (answer (header_faults copy table n) (header_of copy)) ≡ true = ap (λ (r : Result PrivateHeader LabelFault). is_ok r) (sym e) in
    let value : header_of copy ≡ other = ok_value (header_faults copy table n) (header_of copy) other (sym e) in
    rw (good, value) refl

-- the bytes that were read are those of the disk
pub copy_there : (header : PrivateHeader) (table : Table) (read copy : List ℕ) (n m : ℕ) (r there : Bool)
    → r ≡ differs header read table n → read ≡ copy → n ≡ m → r ≡ there → differs header copy table m ≡ there
copy_there header table read copy n m r there e bytes size is = cc

-- ---- What the tables of contents that parse say together.

-- the places of the four tables of contents
abbrev pub places : List ℕ
places = 1 ∷ 2 ∷ 2045 ∷ 2046 ∷ []

abbrev pub after : Result (Option Toc) LabelFault → (Option Toc → Result (Option Toc) LabelFault) → Result (Option Toc) LabelFault
after (Ok next) more = more next
after (Err fault) more = Err fault

-- what those at some places say together with what those before them say
pub all_joined : (ℕ → Option Toc) → Option Toc → List ℕ → Result (Option Toc) LabelFault
all_joined read common [] = Ok common
all_joined read common (a ∷ rest) = after (joined_tables common (read a)) (λ next. all_joined read next rest)

pub step_ok : (read : ℕ → Option Toc) (common next : Option Toc) (xs : List ℕ) (i : ℕ) → i < length xs
    → Ok next ≡ joined_tables common (read (get_or xs i 0)) → all_joined read common (drop i xs) ≡ all_joined read next (drop (i + 1) xs)
unfolding all_joined
step_ok read common next xs i lt e = rw (add-one, drop-cons xs i 0 lt, ← e) refl

pub step_err : (read : ℕ → Option Toc) (common : Option Toc) (xs : List ℕ) (i : ℕ) (fault : LabelFault) → i < length xs
    → Err fault ≡ joined_tables common (read (get_or xs i 0)) → all_joined read common (drop i xs) ≡ Err fault
unfolding all_joined
step_err read common xs i fault lt e = rw (drop-cons xs i 0 lt, ← e) refl

-- ---- any two agree where all agree with the first

pub same_itself : (a : Toc) → same_toc a a ≡ true
unfolding same_toc
same_itself a = grind (arith, nat_tests)

same_values : (a b c d w x y z : ℕ) → (nat_eq a w && nat_eq b x && nat_eq c y && nat_eq d z) ≡ true → (a ≡ w) × (b ≡ x) × (c ≡ y) × (d ≡ z)
same_values a b c d w x y z e = grind (arith, nat_tests)

same_is : (a b : Toc) → same_toc a b ≡ true → a ≡ b
unfolding same_toc
same_is a b e =
    let v = same_values a.area_start a.area_sectors a.log_start a.log_sectors b.area_start b.area_sectors b.log_start b.log_sectors e in
    let is : record { area_start = a.area_start; area_sectors = a.area_sectors; log_start = a.log_start; log_sectors = a.log_sectors }
    ≡ record { area_start = b.area_start; area_sectors = b.area_sectors; log_start = b.log_start; log_sectors = b.log_sectors } = rw (v.0, v.1, v.2, v.3) refl in
    is

neither : (same rest : Bool) → (not same || rest) ≡ false → (same ≡ true) × (rest ≡ false)
neither true rest e = (refl, e)
neither false rest e = absurd cc

none_of_equals : (p : Toc → Bool) (first : Toc) (tocs : List Toc) → p first ≡ false → list_any (λ b. not (same_toc first b)) tocs ≡ false → list_any p tocs ≡ false
none_of_equals p first [] none e = refl
none_of_equals p first (toc ∷ tocs) none e =
    let both = neither (same_toc first toc) (list_any (λ b. not (same_toc first b)) tocs) e in
    let here : p toc ≡ false = ap p (sym (same_is first toc both.0)) ∙ none in
    rw (here) (none_of_equals p first tocs none both.1)

by_first : (any : Bool) (first : Toc) (tocs : List Toc) → list_any (λ b. not (same_toc first b)) tocs ≡ any → some_differ (first ∷ tocs) ≡ any
unfolding some_differ
by_first true first tocs e = rw (same_itself first, e) refl
by_first false first tocs e =
    let self : list_any (λ b. not (same_toc first b)) (first ∷ tocs) ≡ false = rw (same_itself first) e in
    rw (self) (none_of_equals (λ a. list_any (λ b. not (same_toc a b)) (first ∷ tocs)) first tocs self e)

abbrev differ_from : Toc → List Toc → Bool
differ_from first tocs = list_any (λ b. not (same_toc first b)) tocs

one_more : (same : Bool) (first : Toc) (rest : Bool) (x : Result (Option Toc) LabelFault) → x ≡ cond rest (Err TocsDiffer) (Ok (Some first))
    → after (cond same (Ok (Some first)) (Err TocsDiffer)) (λ _. x) ≡ cond (not same || rest) (Err TocsDiffer) (Ok (Some first))
one_more true first rest x e = e
one_more false first rest x e = refl

step_first : (first : Toc) (toc : Option Toc) (more : List Toc) (f : Option Toc → Result (Option Toc) LabelFault)
    → f (Some first) ≡ cond (differ_from first more) (Err TocsDiffer) (Ok (Some first))
    → after (joined_tables (Some first) toc) f ≡ cond (differ_from first (cons_option toc more)) (Err TocsDiffer) (Ok (Some first))
step_first first None more f e = e
step_first first (Some toc) more f e = by_same (same_toc first toc) refl
  where
    by_same : (same : Bool) → same_toc first toc ≡ same → after (joined_tables (Some first) (Some toc)) f ≡ cond (differ_from first (toc ∷ more)) (Err TocsDiffer) (Ok (Some first))
    by_same true is = rw (is) e
    by_same false is = rw (is) refl

joined_first : (read : ℕ → Option Toc) (first : Toc) (xs : List ℕ)
    → all_joined read (Some first) xs ≡ cond (differ_from first (filter_map read xs)) (Err TocsDiffer) (Ok (Some first))
unfolding all_joined
joined_first read first [] = refl
joined_first read first (x ∷ xs) = step_first first (read x) (filter_map read xs) (λ next. all_joined read next xs) (joined_first read first xs)

-- the answer where those that parse may differ
abbrev common_of : List Toc → Result (Option Toc) LabelFault
common_of tocs = answer ((TocsDiffer, some_differ tocs) ∷ []) (slice_get tocs 0)

one_row : (differ : Bool) (value : Option Toc) → unless (cond differ (Some TocsDiffer) None) value ≡ cond differ (Err TocsDiffer) (Ok value)
one_row true value = refl
one_row false value = refl

step_none : (toc : Option Toc) (more : List Toc) (f : Option Toc → Result (Option Toc) LabelFault)
    → f None ≡ common_of more
    → ((first : Toc) → f (Some first) ≡ cond (differ_from first more) (Err TocsDiffer) (Ok (Some first)))
    → after (joined_tables None toc) f ≡ common_of (cons_option toc more)
step_none None more f none some = none
step_none (Some first) more f none some =
    some first ∙ ap (λ (b : Bool). cond b (Err TocsDiffer) (Ok (Some first))) (sym (by_first (differ_from first more) first more refl))
    ∙ sym (one_row (some_differ (first ∷ more)) (Some first))

none_differ : some_differ [] ≡ false
unfolding some_differ
none_differ = refl

-- where all four were joined, all that parse agree, and what they say is what the first says
pub joined_is : (read : ℕ → Option Toc) (xs : List ℕ) → all_joined read None xs ≡ answer ((TocsDiffer, some_differ (filter_map read xs)) ∷ []) (slice_get (filter_map read xs) 0)
unfolding all_joined
joined_is read [] = rw (none_differ) refl
joined_is read (x ∷ xs) = step_none (read x) (filter_map read xs) (λ next. all_joined read next xs) (joined_is read xs) (λ first. joined_first read first xs)

-- what is at a place of the database of an image
abbrev pub reads : List ℕ → ℕ → ℕ → Option Toc
reads image start a = toc_of (sector image (start + a))

none_left : (read : ℕ → Option Toc) (common : Option Toc) (i : ℕ) → 4 ≤ i → all_joined read common (drop i places) ≡ Ok common
unfolding all_joined
none_left read common i le = rw (drop_all i places (omega arith)) refl

-- what is known of an image where some of the four were joined
module _ (image : List ℕ) (start : ℕ) (common : Option Toc) (i : ℕ)
    (so_far : all_joined (reads image start) None places ≡ all_joined (reads image start) common (drop i places)) where
  pub common_next : (toc next : Option Toc) (read : List ℕ) → i < 4 → read ≡ sector image (start + get_or places i 0) → toc ≡ toc_of read → Ok next ≡ joined_tables common toc
      → all_joined (reads image start) None places ≡ all_joined (reads image start) next (drop (i + 1) places)
  common_next toc next read lt bytes is e = so_far ∙ step_ok (reads image start) common next places i lt (e ∙ ap (λ (t : Option Toc). joined_tables common t) (is ∙ ap (λ (s : List ℕ). toc_of s) bytes))

  pub common_err : (toc : Option Toc) (fault : LabelFault) (read : List ℕ) → i < 4 → read ≡ sector image (start + get_or places i 0) → toc ≡ toc_of read → Err fault ≡ joined_tables common toc
      → answer ((TocsDiffer, some_differ (tocs_in start image)) ∷ []) (slice_get (tocs_in start image) 0) ≡ Err fault
  unfolding tocs_in
  common_err toc fault read lt bytes is e = sym (joined_is (reads image start) places) ∙ so_far
      ∙ step_err (reads image start) common places i fault lt (e ∙ ap (λ (t : Option Toc). joined_tables common t) (is ∙ ap (λ (s : List ℕ). toc_of s) bytes))

  pub common_is : 4 ≤ i → answer ((TocsDiffer, some_differ (tocs_in start image)) ∷ []) (slice_get (tocs_in start image) 0) ≡ Ok common
  unfolding tocs_in
  common_is le = sym (joined_is (reads image start) places) ∙ so_far ∙ none_left (reads image start) common i le

-- ---- the table of their faults

some_toc : (toc : Toc) (tocs : List Toc) → nat_eq (length (toc ∷ tocs)) 0 ≡ false
some_toc toc tocs = ne_eqb (length (toc ∷ tocs)) 0 (omega arith)

no_err : {A : Type 0} (differ : Bool) (fault : LabelFault) (none : A) → differ ≡ false → unless (cond differ (Some TocsDiffer) None) none ≡ Err fault → ⊥
no_err true fault none e h = absurd cc
no_err false fault none e h = absurd cc

no_common : {A : Type 0} (differ : Bool) (none common : A) → unless (cond differ (Some TocsDiffer) None) none ≡ Ok common → none ≡ common
no_common true none common h = absurd cc
no_common false none common h = cc

pub tocs_err : {A : Type 0} (tocs : List Toc) (fault : LabelFault) (value : A)
    → answer ((TocsDiffer, some_differ tocs) ∷ []) (slice_get tocs 0) ≡ Err fault → answer (toc_faults tocs) value ≡ Err fault
unfolding toc_faults
tocs_err {A = A} [] fault value e = absurd (no_err (some_differ []) fault (slice_get {X = Toc} [] 0) none_differ e)
tocs_err {A = A} (toc ∷ tocs) fault value e = rw (some_toc toc tocs) (there (some_differ (toc ∷ tocs)) e)
  where
    there : (differ : Bool) → unless (cond differ (Some TocsDiffer) None) (Some toc) ≡ Err fault
        → unless (cond differ (Some TocsDiffer) (cond (is_out_of_database toc) (Some TocRange) None)) value ≡ Err fault
    there true h = cc
    there false h = absurd cc

abbrev pub checked_of : {A : Type 0} → Result Toc LabelFault → A → Result A LabelFault
checked_of (Ok toc) value = Ok value
checked_of (Err fault) value = Err fault

-- where the tables agree, the rest is the test of what they say
pub tocs_ok : {A : Type 0} (tocs : List Toc) (common : Option Toc) (value : A)
    → answer ((TocsDiffer, some_differ tocs) ∷ []) (slice_get tocs 0) ≡ Ok common → answer (toc_faults tocs) value ≡ checked_of (in_database common) value
unfolding toc_faults
tocs_ok {A = A} [] common value e = let is = no_common (some_differ []) (slice_get {X = Toc} [] 0) common e in rw (← is) refl
tocs_ok {A = A} (toc ∷ tocs) common value e = rw (some_toc toc tocs) (there (some_differ (toc ∷ tocs)) e)
  where
    range : (out : Bool) → unless (cond out (Some TocRange) None) value ≡ checked_of (cond out (Err TocRange) (Ok toc)) value
    range true = refl
    range false = refl

    there : (differ : Bool) → unless (cond differ (Some TocsDiffer) None) (Some toc) ≡ Ok common
        → unless (cond differ (Some TocsDiffer) (cond (is_out_of_database toc) (Some TocRange) None)) value ≡ checked_of (in_database common) value
    there true h = absurd cc
    there false h = let is : Some toc ≡ common = cc in rw (← is) (range (is_out_of_database toc))

-- what they say is what the first says
pub first_is : (tocs : List Toc) (common : Option Toc) (toc : Toc)
    → answer ((TocsDiffer, some_differ tocs) ∷ []) (slice_get tocs 0) ≡ Ok common → in_database common ≡ Ok toc → first_toc tocs ≡ toc
first_is tocs common toc e is =
    let same : slice_get tocs 0 ≡ common = ok_value ((TocsDiffer, some_differ tocs) ∷ []) (slice_get tocs 0) common e in
    by_common common toc (slice_get tocs 0) same is
  where
    checked : (out : Bool) (first toc : Toc) → cond out (Err TocRange) (Ok first) ≡ Ok toc → first ≡ toc
    checked true first toc h = absurd cc
    checked false first toc h = cc

    by_common : (common : Option Toc) (toc : Toc) (got : Option Toc) → got ≡ common → in_database common ≡ Ok toc
        → unwrap_or got (record { area_start = 0; area_sectors = 0; log_start = 0; log_sectors = 0 }) ≡ toc
    by_common None toc got same h = absurd cc
    by_common (Some first) toc got same h = rw (same) (checked (is_out_of_database first) first toc h)

-- what the table of their faults answers
pub toc_err : (tocs : List Toc) (common : Option Toc) (value : Toc) (fault : LabelFault)
    → answer ((TocsDiffer, some_differ tocs) ∷ []) (slice_get tocs 0) ≡ Ok common → Err fault ≡ in_database common → answer (toc_faults tocs) value ≡ Err fault
toc_err tocs common value fault same e = tocs_ok tocs common value same ∙ ap (λ (r : Result Toc LabelFault). checked_of r value) (sym e)

pub toc_ok : (tocs : List Toc) (common : Option Toc) (toc : Toc)
    → answer ((TocsDiffer, some_differ tocs) ∷ []) (slice_get tocs 0) ≡ Ok common → Ok toc ≡ in_database common → answer (toc_faults tocs) (first_toc tocs) ≡ Ok toc
toc_ok tocs common toc same e =
    tocs_ok tocs common (first_toc tocs) same ∙ ap (λ (r : Result Toc LabelFault). checked_of r (first_toc tocs)) (sym e)
    ∙ ap (λ (t : Toc). Ok t) (first_is tocs common toc same (sym e))

-- ---- The label of an image, by what the steps of reading it find.

pub short_label : (image : List ℕ) → sectors_of image < 7 → label_of image ≡ Err Short
unfolding label_of
short_label image short = rw (lt-ltb (sectors_of image) 7 short) refl

-- another value, where the table has no fault, and where it has one
pub with_value : {A B : Type 0} (rows : List (LabelFault × Bool)) (a value : A) (b : B) → answer rows a ≡ Ok value → answer rows b ≡ Ok b
with_value rows a value b e = ap (λ (l : List (LabelFault × Bool)). answer l b) (sym (append-nil rows)) ∙ front_ok rows [] a value b e

pub without_value : {A B : Type 0} (rows : List (LabelFault × Bool)) (a : A) (b : B) (fault : LabelFault) → answer rows a ≡ Err fault → answer rows b ≡ Err fault
without_value rows a b fault e = ap (λ (l : List (LabelFault × Bool)). answer l b) (sym (append-nil rows)) ∙ front_err rows [] a b fault e

past_short : {A : Type 0} (n : ℕ) (rows : List (LabelFault × Bool)) (value : A) → 7 ≤ n → answer ((Short, nat_lt n 7) ∷ rows) value ≡ answer rows value
past_short n rows value long = rw (le-ltb n 7 long) refl

module _ (image : List ℕ) (long : 7 ≤ sectors_of image) where
  abbrev head : Table → List ℕ
  head table = sector image (header_at table)

  abbrev header : Table → PrivateHeader
  header table = header_of (head table)

  abbrev rows : Table → List (LabelFault × Bool)
  rows table = header_faults (head table) table (sectors_of image)

  -- the values of the tables of contents, and the label, behind that header
  abbrev tocs : PrivateHeader → List Toc
  tocs read = tocs_in read.config_start image

  abbrev label : Table → PrivateHeader → Label
  label table read = label_from (table_style table) read (first_toc (tocs read))

  abbrev rest : Table → PrivateHeader → List (LabelFault × Bool)
  rest table read = copy_faults read table image ++ toc_faults (tocs read)

  -- the rows behind those of the table of partitions
  abbrev behind : Table → List (LabelFault × Bool)
  behind table = rows table ++ rest table (header table)

  long_label : label_of image ≡ answer (table_faults image ++ behind (disk_table image)) (label (disk_table image) (header (disk_table image)))
  unfolding label_of
  long_label =
      let t = disk_table image in
      let copies = copy_faults (header t) t image in
      let tables = toc_faults (tocs (header t)) in
      past_short (sectors_of image) (table_faults image ++ rows t ++ copies ++ tables) (label t (header t)) long
      ∙ ap (λ (l : List (LabelFault × Bool)). answer l (label t (header t)))
      (append_assoc (table_faults image ++ rows t) copies tables ∙ append_assoc (table_faults image) (rows t) (copies ++ tables))

  pub table_err : (fault : LabelFault) → answer (table_faults image) (disk_table image) ≡ Err fault → label_of image ≡ Err fault
  table_err fault e = long_label ∙ front_err (table_faults image) (behind (disk_table image)) (disk_table image) (label (disk_table image) (header (disk_table image))) fault e

  module _ (table : Table) (found : answer (table_faults image) (disk_table image) ≡ Ok table) where
    past_table : label_of image ≡ answer (behind table) (label table (header table))
    past_table = long_label
        ∙ front_ok (table_faults image) (behind (disk_table image)) (disk_table image) table (label (disk_table image) (header (disk_table image))) found
        ∙ ap (λ (t : Table). answer (behind t) (label t (header t))) (ok_value (table_faults image) (disk_table image) table found)

    pub header_err : (fault : LabelFault) → answer (rows table) (header table) ≡ Err fault → label_of image ≡ Err fault
    header_err fault e = past_table ∙ front_err (rows table) (rest table (header table)) (header table) (label table (header table)) fault e

    module _ (read : PrivateHeader) (good : answer (rows table) (header table) ≡ Ok read) where
      past_header : label_of image ≡ answer (rest table read) (label table read)
      past_header = past_table ∙ front_ok (rows table) (rest table (header table)) (header table) read (label table (header table)) good
          ∙ ap (λ (h : PrivateHeader). answer (rest table h) (label table h)) (ok_value (rows table) (header table) read good)

      pub copies_err : (fault : LabelFault) → answer {A = Unit {0}} (copy_faults read table image) tt ≡ Err fault → label_of image ≡ Err fault
      copies_err fault e = past_header ∙ front_err (copy_faults read table image) (toc_faults (tocs read)) tt (label table read) fault e

      module _ (agree : answer {A = Unit {0}} (copy_faults read table image) tt ≡ Ok tt) where
        past_copies : label_of image ≡ answer (toc_faults (tocs read)) (label table read)
        past_copies = past_header ∙ front_ok (copy_faults read table image) (toc_faults (tocs read)) tt tt (label table read) agree

        pub tables_err : (fault : LabelFault)
            → answer (toc_faults (tocs read)) (first_toc (tocs read)) ≡ Err fault
            → label_of image ≡ Err fault
        tables_err fault e = past_copies ∙ without_value (toc_faults (tocs read))
            (first_toc (tocs read)) (label table read) fault e

        pub label_is : (toc : Toc) → answer (toc_faults (tocs read)) (first_toc (tocs read)) ≡ Ok toc → label_of image ≡ Ok (label_from (table_style table) read toc)
        label_is toc e = past_copies ∙ with_value (toc_faults (tocs read)) (first_toc (tocs read)) toc (label table read) e
            ∙ ap (λ (t : Toc). Ok (label_from (table_style table) read t)) (ok_value (toc_faults (tocs read)) (first_toc (tocs read)) toc e)
