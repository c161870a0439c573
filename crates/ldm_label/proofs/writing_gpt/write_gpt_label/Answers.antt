use Rattle.std.proofs.Common.{◌≡◌, ◌∙◌, ap, ℕ, ◌+◌, ◌-◌, ◌*◌, List, [], ◌∷◌}
use Rattle.ldm_bytes.specs.Places.{put_each}
use Rattle.ldm_bytes.proofs.PutLaws.{put_then, put_none}
use Rattle.ldm_label.specs.declared.writing.LabelSectors.{LabelSectors}
use Rattle.ldm_label.specs.declared.writing_gpt.GptSectors.{GptSectors}
use Rattle.ldm_label.specs.Fields.{sectors_of}
use Rattle.ldm_label.specs.WrittenGpt.{written_tables, gpt_parts}
use Rattle.ldm_label.proofs.GptLabelLaws.{has_parts, same_outside, reads_back}
use Rattle.ldm_label.proofs.writing_gpt.write_gpt_label.Goals as goal

-- the parts by their sectors, of a disk of so many sectors with a database at a start
abbrev parts : GptSectors → LabelSectors → ℕ → ℕ → List (ℕ × List ℕ)
parts tables sectors start n =
    (512 * 0, tables.protective)
    ∷ (512 * 1, tables.primary)
    ∷ (512 * 2, tables.entries)
    ∷ (512 * (start + 1), sectors.toc)
    ∷ (512 * (start + 2), sectors.toc)
    ∷ (512 * (start + 1856), sectors.header)
    ∷ (512 * (start + 2045), sectors.toc)
    ∷ (512 * (start + 2046), sectors.toc)
    ∷ (512 * (start + 2047), sectors.header)
    ∷ (512 * (n - 33), tables.entries)
    ∷ (512 * (n - 1), tables.backup)
    ∷ []

is : (c : goal.After-slice_known-12-1) → c.put_at-11.new.image ≡ put_each c.args.image.now (gpt_parts c.args.label.now (sectors_of c.args.image.now))
is c =
    let label = c.args.label.now in
    let old = c.args.image.now in
    let n = sectors_of old in
    let put : c.put_at-11.new.image ≡ put_each old (parts c.gpt_sectors-tables.result c.label_sectors-sectors.result label.config_start n) =
    put_then _ _ _ _ _ c.put_at.ensures (put_then _ _ _ _ _ c.put_at-2.ensures (put_then _ _ _ _ _ c.put_at-3.ensures (put_then _ _ _ _ _ c.put_at-4.ensures
    (put_then _ _ _ _ _ c.put_at-5.ensures (put_then _ _ _ _ _ c.put_at-6.ensures (put_then _ _ _ _ _ c.put_at-7.ensures (put_then _ _ _ _ _ c.put_at-8.ensures
    (put_then _ _ _ _ _ c.put_at-9.ensures (put_then _ _ _ _ _ c.put_at-10.ensures (put_then _ _ _ _ _ c.put_at-11.ensures (put_none _))))))))))) in
    put
    ∙ ap (λ (tables : GptSectors). put_each old (parts tables c.label_sectors-sectors.result label.config_start n)) c.gpt_sectors-tables.ensures
    ∙ ap (λ (sectors : LabelSectors). put_each old (parts (written_tables label n) sectors label.config_start n)) c.label_sectors-sectors.ensures

pub returns-clause-written : goal.returns-clause-written
returns-clause-written c = has_parts c.args.label.now c.args.image.now c.put_at-11.new.image c.requires.fits c.requires.writable (is c)

pub returns-clause-reads_back : goal.returns-clause-reads_back
returns-clause-reads_back c = reads_back c.args.label.now c.args.image.now c.put_at-11.new.image c.requires.fits c.requires.writable (is c)

pub returns-clause-stays : goal.returns-clause-stays
returns-clause-stays c = same_outside c.args.label.now c.args.image.now c.put_at-11.new.image c.requires.fits c.requires.writable (is c)
