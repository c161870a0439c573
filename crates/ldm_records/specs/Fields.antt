-- The values of a record's fields in the order of the table.
use Rattle.std.specs.Prelude.{ℕ, List, [], ◌∷◌, Option, Some, None}
use Rattle.ldm_records.specs.Values.{Value, Fixed, Wide, Number, Text, Absent}

abbrev pub number_option : Option ℕ → Value
number_option None = Absent
number_option (Some v) = Number v

abbrev pub text_option : Option (List ℕ) → Value
text_option None = Absent
text_option (Some t) = Text t

abbrev pub volume_values : ℕ → List ℕ → List ℕ → List ℕ → List ℕ → ℕ → List ℕ → ℕ → List ℕ → ℕ → List ℕ → Option (List ℕ) → Option (List ℕ) → Option ℕ → Option (List ℕ) → List Value
volume_values id name kind second fixed21 children fixed16 size fixed4 part_type guid id1 id2 size2 hint =
    Number id ∷ Text name ∷ Text kind ∷ Text second ∷ Fixed fixed21 ∷ Number children ∷ Fixed fixed16 ∷ Number size ∷ Fixed fixed4
    ∷ Fixed (part_type ∷ []) ∷ Fixed guid ∷ text_option id1 ∷ text_option id2 ∷ number_option size2 ∷ text_option hint ∷ []

-- a component, whose striping is two values
abbrev pub component_values : ℕ → List ℕ → List ℕ → ℕ → List ℕ → ℕ → List ℕ → ℕ → ℕ → Value → Value → List Value
component_values id name state layout fixed4 children fixed16 parent fixed1 chunk columns =
    Number id ∷ Text name ∷ Text state ∷ Fixed (layout ∷ []) ∷ Fixed fixed4 ∷ Number children ∷ Fixed fixed16 ∷ Number parent
    ∷ Fixed (fixed1 ∷ []) ∷ chunk ∷ columns ∷ []

abbrev pub partition_values : ℕ → List ℕ → List ℕ → ℕ → ℕ → ℕ → ℕ → ℕ → Option ℕ → List Value
partition_values id name fixed12 start offset size parent disk index =
    Number id ∷ Text name ∷ Fixed fixed12 ∷ Wide 8 start ∷ Wide 8 offset ∷ Number size ∷ Number parent ∷ Number disk ∷ number_option index ∷ []
