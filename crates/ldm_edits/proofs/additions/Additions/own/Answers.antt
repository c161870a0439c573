use Rattle.std.proofs.Common.{◌≡◌, ◌∙◌, ◌++◌, sym, filter}
use Rattle.ldm_edits.specs.Staying.{belongs, plex_ids}
use Rattle.ldm_edits.proofs.OwnLaws.{none_named, none_twice, owns}
use Rattle.ldm_edits.proofs.additions.Additions.own.Goals.{In_ok-push_own}
use Rattle.ldm_edits.proofs.additions.Additions.own.Goals as goal

pub returns-in_default : goal.returns-in_default
returns-in_default c =
    none_named c.args.name.now c.args.db.now.records c.args.self.now.records.items c.requires.front
    (sym (rw c.as_slice.ensures.value at c.id_named.ensures) ∙ c.in_default.is)

items_are : (c : In_ok-push_own) → c.push_own.new.own.items
    ≡ c.args.db.now.records ++ filter (belongs c.in-Some.volume c.as_slice-5.result.now) c.args.self.now.records.items
items_are c = rw (
  c.in_ok-push_own.ensures,
  c.in_ok-push_copies.ensures,
  c.new-own.ensures.items,
  c.as_slice-3.ensures.all,
  c.as_slice-4.ensures.value,
)

pub returns-in-Ok : goal.returns-in-Ok
returns-in-Ok c =
    let ids_are : c.as_slice-5.result.now ≡ plex_ids c.in-Some.volume c.args.self.now.records.items =
    rw (c.as_slice-5.ensures.value, c.in_ok-components.ensures, c.as_slice-2.ensures.value) in
    owns c.args.name.now c.args.db.now.records c.args.self.now.records.items c.in-Ok.own.records _ c.requires.sound.0
    c.in-Some.volume c.as_slice-5.result.now c.requires.are.rising c.requires.are.disks c.requires.front c.requires.sound.1
    (sym (rw c.as_slice.ensures.value at c.id_named.ensures) ∙ c.in-Some.is)
    ids_are (items_are (goal.at.returns-in-Ok c).In_ok-push_own) c.in-Ok.ensures.rising c.in-Ok.ensures.same

pub unreachable-requires : goal.unreachable-requires
unreachable-requires c =
    let items = items_are (goal.at.unreachable-requires c).In_ok-push_own in
    none_twice (belongs c.in-Some.volume c.as_slice-5.result.now) c.args.db.now.records c.args.self.now.records.items _ _
    c.requires.are.rising (rw (c.in-Err-SameId.field-0-is, items) at c.in-Err-SameId.ensures)
