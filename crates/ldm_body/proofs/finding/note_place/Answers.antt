use Rattle.std.proofs.Common.{◌∙◌, sym, arith}
use Rattle.ldm_body.proofs.FindLaws.{places_set, places_used}
use Rattle.ldm_body.proofs.finding.note_place.Goals as goal

pub returns-then-place_in-end : goal.returns-then-place_in-end
returns-then-place_in-end c =
    places_set c.args.blocks.now c.args.places.now c.args.k c.get_u16-parts.result c.get_u32-group.result c.get_u16-part.result c.requires.before c.requires.within
    c.get_u16-parts.ensures c.get_u32-group.ensures c.get_u16-part.ensures c.if-parts-lt2.false c.if-group-lt4.false c.if-group-end.false c.if-part-ge4.false
    (sym c.place_in.ensures ∙ c.if-place_in-end.true)

pub returns-else-place_in-end : goal.returns-else-place_in-end
returns-else-place_in-end c =
    places_used c.args.blocks.now c.args.places.now c.args.k c.get_u16-parts.result c.get_u32-group.result c.get_u16-part.result c.requires.before c.requires.within
    c.get_u16-parts.ensures c.get_u32-group.ensures c.get_u16-part.ensures c.if-parts-lt2.false c.if-group-lt4.false c.if-group-end.false c.if-part-ge4.false
    (λ e. absurd (omega (arith, c.place_in.ensures, e, c.if-place_in-end.false)))
