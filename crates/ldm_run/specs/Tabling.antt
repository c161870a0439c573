-- What is answered where the table of a volume is to be said, or those of all volumes.
use Rattle.std.specs.Prelude.{ℕ, List, Result, Ok, Err}
use Rattle.ldm_records.specs.declared.types.Volume.{Volume}
use Rattle.ldm_group.specs.Looks.{volume_named}
use Rattle.ldm_places.specs.Layouts.{Layout}
use Rattle.ldm_layout.specs.Volumes.{layout_of}
use Rattle.ldm_copy.specs.declared.found.Found.{Found}
use Rattle.ldm_table.specs.declared.faults.TableFault.{TableFault}
use Rattle.ldm_table.specs.Faults.{table_text, text_of_fault}
use Rattle.ldm_words.specs.declared.job.Format.TheVariants.{Lines}
use Rattle.ldm_table.specs.Groups.{tables_text, text_of_tables_fault}
use Rattle.ldm_table.specs.declared.groups.TablesFault.{TablesFault}
use Rattle.ldm_look.specs.Said.{Answer, refused}
use Rattle.ldm_run.specs.Streaming.{laid_answer, named_answer}
use Rattle.ldm_words.specs.declared.status.Status.TheVariants.{Done}

-- the table, or why there is none
abbrev pub text_answer : Result (List ℕ) TableFault → Answer
text_answer (Ok text) = (text, Done)
text_answer (Err fault) = refused (text_of_fault fault)

abbrev pub volume_table : List (List ℕ) → Found → Volume → Layout → Answer
volume_table words found v l = text_answer (table_text words found v l)

-- the table of the volume of this name, of images that these words name
abbrev pub table_answer : List ℕ → List (List ℕ) → Found → Answer
table_answer name words found =
    named_answer Lines (λ v. laid_answer (volume_table words found v) (layout_of found.db.records v)) (volume_named name found.db.records)

-- the tables of all volumes that have one, or why there are none
abbrev pub all_answer : Result (List ℕ) TablesFault → Answer
all_answer (Ok text) = (text, Done)
all_answer (Err fault) = refused (text_of_tables_fault fault)

-- those of the group, of images that these words name
abbrev pub tables_answer : List (List ℕ) → Found → Answer
tables_answer words found = all_answer (tables_text words found)
