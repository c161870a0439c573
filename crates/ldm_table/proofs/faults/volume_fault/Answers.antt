use Rattle.std.proofs.Common.{arith, ◌≡◌, ◌∙◌, ℕ, sym, ap, Bool, Option, Some}
use Rattle.ldm_places.specs.declared.shape.Shape.{Shape}
use Rattle.ldm_table.specs.declared.faults.TableFault.{TableFault}
use Rattle.ldm_table.specs.declared.faults.TableFault.TheVariants.{Chunk, Columns}
use Rattle.ldm_table.specs.Faults.{is_bad_chunk, has_many_columns}
use Rattle.ldm_table.proofs.VolumeLaws.{by_least, bad_chunk, many_columns, last_fault}
use Rattle.ldm_table.proofs.faults.volume_fault.Goals as goal

pub returns-in-Some : goal.returns-in-Some
returns-in-Some c = by_least c.args.found.now c.args.plan.now (Some c.in-Some.sector) c.in-Some.ensures (λ e. c.if-size-eq0.false (c.size.ensures ∙ e))

-- what the tests of the chunk and of the columns say of the volume
chunk_test : {s t : Shape} {u v : ℕ} {b d : Bool} → b ≡ is_bad_chunk s u → s ≡ t → u ≡ v → b ≡ d → is_bad_chunk t v ≡ d
chunk_test {s} {t} {u} {v} is shape chunk b = sym (is ∙ (ap (λ (x : Shape). is_bad_chunk x u) shape ∙ ap (is_bad_chunk t) chunk)) ∙ b

columns_test : {s t : Shape} {k n : ℕ} {b d : Bool} → b ≡ has_many_columns s k → s ≡ t → k ≡ n → b ≡ d → has_many_columns t n ≡ d
columns_test {s} {t} {k} {n} is shape count b = sym (is ∙ (ap (λ (x : Shape). has_many_columns x k) shape ∙ ap (has_many_columns t) count)) ∙ b

some_chunk : ℕ → Option TableFault
some_chunk n = Some (Chunk n)

some_columns : ℕ → Option TableFault
some_columns n = Some (Columns n)

pub returns-then-is_bad_chunk : goal.returns-then-is_bad_chunk
unfolding some_chunk
returns-then-is_bad_chunk c = grind (arith, some_chunk, bad_chunk, chunk_test)

pub returns-then-has_many_columns : goal.returns-then-has_many_columns
unfolding some_columns
returns-then-has_many_columns c = grind (arith, some_columns, many_columns, chunk_test, columns_test)

pub returns-in-Some-first_rebuilt : goal.returns-in-Some-first_rebuilt
returns-in-Some-first_rebuilt c = grind (arith, last_fault, chunk_test, columns_test)

pub returns-in-None : goal.returns-in-None
returns-in-None c = grind (arith, last_fault, chunk_test, columns_test)
