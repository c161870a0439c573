-- The entries of a GPT that are put one after the other.
use Rattle.std.proofs.Common.{◌≡◌, ℕ, ◌+◌, ◌-◌, List, [], ◌∷◌, ◌++◌, replicate, refl, sym, ◌∙◌, ap}
use Rattle.ldm_bytes.specs.Places.{put, put_each}
use Rattle.ldm_label.specs.declared.Label.{Label}
use Rattle.ldm_label.specs.WrittenGpt.{drawn_guid, entry_fields, metadata_name, reserved_name, data_name, metadata_fields, reserved_fields, data_fields, written_entries}

-- fields that are put behind others
each_append : (old : List ℕ) (first second : List (ℕ × List ℕ)) → put_each old (first ++ second) ≡ put_each (put_each old first) second
unfolding put_each
each_append old [] second = refl
each_append old (field ∷ first) second = each_append (put old field.0 field.1) first second

pub entries_are : (label : Label) (one two three : List ℕ) (g h i : ℕ) → g ≡ drawn_guid label 2 → h ≡ drawn_guid label 3 → i ≡ drawn_guid label 4
    → one ≡ put_each (replicate 16384 0) (entry_fields 0 0x5808C8AA7E8F42E085D2E1E90434CFB3 g label.config_start (label.config_start + 2047) metadata_name)
    → two ≡ put_each one (entry_fields 128 0xE3C9E3160B5C4DB8817DF92DF00215AE h (label.config_start + 2048) (label.data_start - 1) reserved_name)
    → three ≡ put_each two (entry_fields 256 0xAF9B60A014314F62BC683311714A69AD i label.data_start (label.data_start + label.data_size - 1) data_name)
    → three ≡ written_entries label
unfolding written_entries
entries_are label one two three g h i first second third one_is two_is three_is =
    three_is
    ∙ ap (λ (guid : ℕ). put_each two (entry_fields 256 0xAF9B60A014314F62BC683311714A69AD guid label.data_start (label.data_start + label.data_size - 1) data_name)) third
    ∙ ap (λ (l : List ℕ). put_each l (data_fields label)) (
    two_is
    ∙ ap (λ (guid : ℕ). put_each one (entry_fields 128 0xE3C9E3160B5C4DB8817DF92DF00215AE guid (label.config_start + 2048) (label.data_start - 1) reserved_name)) second
    ∙ ap (λ (l : List ℕ). put_each l (reserved_fields label)) (
    one_is
    ∙ ap (λ (guid : ℕ). put_each (replicate 16384 0) (entry_fields 0 0x5808C8AA7E8F42E085D2E1E90434CFB3 guid label.config_start (label.config_start + 2047) metadata_name)) first
    )
    )
    ∙ sym (each_append (put_each (replicate 16384 0) (metadata_fields label)) (reserved_fields label) (data_fields label))
    ∙ sym (each_append (replicate 16384 0) (metadata_fields label) (reserved_fields label ++ data_fields label))
