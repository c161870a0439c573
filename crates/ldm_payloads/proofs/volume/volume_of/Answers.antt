use Rattle.std.proofs.Common.{rules, arith, ap, refl, ◌∙◌, ◌≡◌, ◌+◌, ℕ, List, [], ◌∷◌, ◌++◌, length, Option, Some}
use Rattle.ldm_payloads.specs.declared.volume_text.VolumeMain.{VolumeMain}
use Rattle.ldm_payloads.specs.declared.volume_text.VolumeMore.{VolumeMore}
use Rattle.ldm_records.specs.Values.{Value, Fixed, Number, Text, value_len, values_len}
use Rattle.ldm_records.specs.Fields.{text_option, number_option}
use Rattle.ldm_records.specs.Table.{volume_kinds}
use Rattle.ldm_payloads.specs.Opened.{ended}
use Rattle.ldm_payloads.specs.Seen.{seen}
use Rattle.ldm_payloads.specs.FieldViews.{main_kinds, main_seen, more_kinds, more_seen}
use Rattle.ldm_payloads.proofs.OpeningLaws.{rest_none, rest_is, rest_gives, values_join, values_none_first, values_none_then}
use Rattle.ldm_payloads.proofs.volume.volume_of.Goals as goal

pub returns-in_default : goal.returns-in_default
returns-in_default c =
    let flags : ℕ = c.args.opening.now.flags in
    rest_none c.args.opening.now 0x51 (volume_kinds flags) c.args.rest.now (values_none_first main_kinds (more_kinds flags) c.args.rest.now c.in_default.ensures)

pub returns-in_default-read_more : goal.returns-in_default-read_more
returns-in_default-read_more c =
    let flags : ℕ = c.args.opening.now.flags in
    rest_none c.args.opening.now 0x51 (volume_kinds flags) c.args.rest.now (values_none_then main_kinds (more_kinds flags) c.args.rest.now _ c.in-Some.ensures c.in_default-read_more.ensures.gives)

all_len : (m : VolumeMain) (f : VolumeMore) (n : ℕ) → n ≡ values_len (main_seen m) + values_len (more_seen f) → values_len (main_seen m ++ more_seen f) ≡ n
all_len m f n h = omega (arith, h)

pub returns-in_err-head : goal.returns-in_err-head
returns-in_err-head c =
    let flags : ℕ = c.args.opening.now.flags in
    let m : VolumeMain = c.in-Some.main in
    let f : VolumeMore = c.in-Some-read_more.more in
    let read = values_join main_kinds (more_kinds flags) c.args.rest.now (main_seen m, c.in-Some.rest.now) (more_seen f, f.tail.now) c.in-Some.ensures c.in-Some-read_more.ensures.gives in
    let gives = c.in_err-head.ensures.gives 0x51 (main_seen m ++ more_seen f) (all_len m f _ c.own_len.ensures.len) in
    rest_gives c.args.opening.now 0x51 (volume_kinds flags) c.args.rest.now (main_seen m ++ more_seen f, f.tail.now) c.from_residual.result read (search rules)

abbrev text_len : Option (List ℕ) → ℕ
text_len t = value_len (text_option t)

pub invariant_of-result-clause-short : goal.invariant_of-result-clause-short
invariant_of-result-clause-short c =
    omega (arith, ap length c.in-Ok.ensures.0, ap length c.in-Ok.ensures.1, ap text_len c.in-Ok-more_texts.ensures.id1, ap text_len c.in-Ok-more_texts.ensures.id2, ap text_len c.in-Ok-more_texts.ensures.hint, c.own_len.ensures.len, c.in_ok-head.ensures.short)

-- the values of owned texts
owned : (m : VolumeMain) (f : VolumeMore) (kind second : List ℕ) (id1 id2 hint : Option (List ℕ)) → kind ≡ m.kind.now → second ≡ m.second.now
    → id1 ≡ seen f.id1 → id2 ≡ seen f.id2 → hint ≡ seen f.hint
    → main_seen m ++ more_seen f
    ≡ Text kind ∷ Text second ∷ Fixed m.fixed21 ∷ Number m.children ∷ Fixed m.fixed16 ∷ Number m.size ∷ Fixed m.fixed4 ∷ Fixed (m.part_type ∷ []) ∷ Fixed m.guid
    ∷ text_option id1 ∷ text_option id2 ∷ number_option f.size2 ∷ text_option hint ∷ []
owned m f kind second id1 id2 hint k s i j h = rw (k, s, i, j, h) refl

pub returns-in-Ok-more_texts : goal.returns-in-Ok-more_texts
returns-in-Ok-more_texts c =
    let flags : ℕ = c.args.opening.now.flags in
    let m : VolumeMain = c.in-Some.main in
    let f : VolumeMore = c.in-Some-read_more.more in
    let read = values_join main_kinds (more_kinds flags) c.args.rest.now (main_seen m, c.in-Some.rest.now) (more_seen f, f.tail.now) c.in-Some.ensures c.in-Some-read_more.ensures.gives in
    rest_is c.args.opening.now 0x51 (volume_kinds flags) c.args.rest.now (main_seen m ++ more_seen f, f.tail.now) read
    ∙ c.in_ok-head.ensures.gives 0x51 (main_seen m ++ more_seen f) (all_len m f _ c.own_len.ensures.len)
    ∙ ap (λ (values : List Value). Some (ended 0x51 values (c.in_ok-head.head, c.in_ok-head.tail)))
    (owned m f _ _ _ _ _ c.in-Ok.ensures.0 c.in-Ok.ensures.1 c.in-Ok-more_texts.ensures.id1 c.in-Ok-more_texts.ensures.id2 c.in-Ok-more_texts.ensures.hint)
