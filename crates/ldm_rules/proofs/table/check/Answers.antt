use Rattle.std.proofs.Common.{arith, rules, ◌≡◌, ◌∙◌, ◌++◌, Err, sym, subst}
use Rattle.ldm_bytes.specs.Tables.{first_of}
use Rattle.ldm_rules.specs.Table.{ChecksAs, first_broken_rule, name_rules, tree_rules, sector_rules}
use Rattle.ldm_rules.proofs.SoundLaws.{checked_layouts}
use Rattle.ldm_rules.proofs.FirstLaws.{failed, in_rest}
use Rattle.ldm_rules.proofs.table.check.Goals as goal

pub returns-in_err-check_names-clause-is : goal.returns-in_err-check_names-clause-is
unfolding first_broken_rule
returns-in_err-check_names-clause-is c = grind (arith, failed)

pub returns-in_err-check_tree-clause-is : goal.returns-in_err-check_tree-clause-is
unfolding first_broken_rule
returns-in_err-check_tree-clause-is c =
    let rest = tree_rules c.args.db.now.records ++ sector_rules c.args.db.now.records c.args.labels.now in
    let same : c.from_residual-in_err-check_tree.result ≡ Err c.in_err-check_tree.field-0.0 = search rules in
    let skipped = in_rest (name_rules c.args.db.now.records) rest c.in_ok-check_names.ensures in
    subst (λ r. ChecksAs r (first_of (name_rules c.args.db.now.records ++ rest))) (sym same)
    (subst (ChecksAs (Err c.in_err-check_tree.field-0.0)) (sym skipped)
    (failed (tree_rules c.args.db.now.records) (sector_rules c.args.db.now.records c.args.labels.now) c.in_err-check_tree.field-0.0 c.in_err-check_tree.ensures))

pub returns-clause-is : goal.returns-clause-is
unfolding first_broken_rule
returns-clause-is c =
    let rest = tree_rules c.args.db.now.records ++ sector_rules c.args.db.now.records c.args.labels.now in
    let skipped = in_rest (name_rules c.args.db.now.records) rest c.in_ok-check_names.ensures
    ∙ in_rest (tree_rules c.args.db.now.records) (sector_rules c.args.db.now.records c.args.labels.now) c.in_ok-check_tree.ensures in
    subst (ChecksAs c.check_sectors.result) (sym skipped) c.check_sectors.ensures.is

pub returns-clause-laid_out : goal.returns-clause-laid_out
returns-clause-laid_out c = checked_layouts c.args.db.now.records c.args.labels.now c.check_sectors.result (returns-clause-is c)
