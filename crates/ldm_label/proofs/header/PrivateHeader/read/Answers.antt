use Rattle.std.proofs.Common.{true, false, Ok, sym, ◌∙◌, ap}
use Rattle.ldm_label.specs.declared.header.PrivateHeader.{PrivateHeader}
use Rattle.ldm_label.specs.Fields.{header_of, is_out_of_range}
use Rattle.std.specs.Prelude.{is_none}
use Rattle.ldm_label.proofs.ReadLaws.{header_fits, none_is, no_magic, no_version, no_size, no_range, by_guid}
use Rattle.ldm_label.proofs.header.PrivateHeader.read.Goals as goal

pub returns-then-not-begins_privhead-clause-is : goal.returns-then-not-begins_privhead-clause-is
returns-then-not-begins_privhead-clause-is c =
    let head = c.args.head.now in
    sym (no_magic head c.args.table.now c.args.sectors (header_of head) (sym c.if-not-begins_privhead.ensures))

pub returns-then-not-has_known_version-clause-is : goal.returns-then-not-has_known_version-clause-is
returns-then-not-has_known_version-clause-is c =
    let head = c.args.head.now in
    sym (no_version head c.args.table.now c.args.sectors (header_of head) (sym c.if-not-begins_privhead.ensures) (sym c.if-not-has_known_version.ensures))

pub returns-then-get_u64-ne2048-clause-is : goal.returns-then-get_u64-ne2048-clause-is
returns-then-get_u64-ne2048-clause-is c =
    let head = c.args.head.now in
    sym (no_size head c.args.table.now c.args.sectors (header_of head) (sym c.if-not-begins_privhead.ensures) (sym c.if-not-has_known_version.ensures) (λ is. c.if-get_u64-ne2048.true (c.get_u64.ensures ∙ is)))

pub returns-then-exceeds-clause-is : goal.returns-then-exceeds-clause-is
returns-then-exceeds-clause-is c =
    let head = c.args.head.now in
    let same = c.of-header.ensures in
    sym (no_range head c.args.table.now c.args.sectors (header_of head) (sym c.if-not-begins_privhead.ensures) (sym c.if-not-has_known_version.ensures) (sym c.get_u64.ensures ∙ c.if-get_u64-ne2048.false)
    (ap (λ (h : PrivateHeader). is_out_of_range h c.args.table.now c.args.sectors) (sym same) ∙ sym c.exceeds.ensures ∙ c.if-exceeds.true))

pub returns-then-is_none-clause-is : goal.returns-then-is_none-clause-is
returns-then-is_none-clause-is c =
    let head = c.args.head.now in
    let same = c.of-header.ensures in
    sym (by_guid head c.args.table.now c.args.sectors (header_of head) (sym c.if-not-begins_privhead.ensures) (sym c.if-not-has_known_version.ensures) (sym c.get_u64.ensures ∙ c.if-get_u64-ne2048.false)
    (ap (λ (h : PrivateHeader). is_out_of_range h c.args.table.now c.args.sectors) (sym same) ∙ sym c.exceeds.ensures ∙ c.if-exceeds.false) true
    (sym (ap is_none c.read_disk_guid.ensures) ∙ none_is c.read_disk_guid.result c.is_none.result c.is_none.ensures ∙ c.if-is_none.true))

pub returns-clause-is : goal.returns-clause-is
returns-clause-is c =
    let head = c.args.head.now in
    let same = c.of-header.ensures in
    ap Ok same ∙ sym (by_guid head c.args.table.now c.args.sectors (header_of head) (sym c.if-not-begins_privhead.ensures) (sym c.if-not-has_known_version.ensures) (sym c.get_u64.ensures ∙ c.if-get_u64-ne2048.false)
    (ap (λ (h : PrivateHeader). is_out_of_range h c.args.table.now c.args.sectors) (sym same) ∙ sym c.exceeds.ensures ∙ c.if-exceeds.false) false
    (sym (ap is_none c.read_disk_guid.ensures) ∙ none_is c.read_disk_guid.result c.is_none.result c.is_none.ensures ∙ c.if-is_none.false))

pub returns-clause-fits : goal.returns-clause-fits
returns-clause-fits c = header_fits _ c.args.table.now c.args.sectors c.requires (sym c.exceeds.ensures ∙ c.if-exceeds.false)
