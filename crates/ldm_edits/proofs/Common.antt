-- The words of the crates below that the proofs of edits cite most, passed on from one place. Declares nothing.
pub use Rattle.ldm_bytes.specs.Tables.{first_of}
pub use Rattle.ldm_group.specs.Database.{Database}
pub use Rattle.ldm_group.specs.Looks.{HasSameDisks, is_child, is_volume_named, max_id, volume_in, volume_named}
pub use Rattle.ldm_group.specs.Order.{Rising, id_of, kind_of}
unfoldable pub use Rattle.ldm_group.specs.Order.{in_order, place_of}
pub use Rattle.ldm_group.specs.Room.{IsFitting, last_for, need_of}
unfoldable pub use Rattle.ldm_group.specs.Room.{own_len}
pub use Rattle.ldm_label.specs.declared.Label.{Label}
pub use Rattle.ldm_layout.specs.Parts.{by_offset, extent_of, extents_of, held_in, plex_of, plexes_of}
pub use Rattle.ldm_layout.specs.Volumes.{layout_of, shape_of}
pub use Rattle.ldm_layout.specs.declared.parts.Plex.{Plex}
pub use Rattle.ldm_made.specs.Made.{new_partition, resized}
pub use Rattle.ldm_made.specs.Volumes.{span_parts, there}
pub use Rattle.ldm_made.specs.declared.taken.Taken.{Taken}
pub use Rattle.ldm_places.specs.Extents.{least}
pub use Rattle.ldm_places.specs.Layouts.{Layout}
pub use Rattle.ldm_places.specs.declared.extent.Extent.{Extent}
pub use Rattle.ldm_places.specs.declared.shape.Shape.{Shape}
pub use Rattle.ldm_places.specs.declared.shape.Shape.TheVariants.{Mirror, Raid5, Span, Stripe}
pub use Rattle.ldm_records.specs.declared.types.Component.{Component}
pub use Rattle.ldm_records.specs.declared.types.Partition.{Partition}
pub use Rattle.ldm_records.specs.declared.types.Record.{Record}
pub use Rattle.ldm_records.specs.declared.types.Volume.{Volume}
pub use Rattle.ldm_rules.specs.Ends.{data_size}
pub use Rattle.ldm_rules.specs.Facts.{IsSoundOn}
pub use Rattle.ldm_space.specs.Free.{taken_by, taken_in, taken_of}
pub use Rattle.ldm_space.specs.Placed.{AllEndWithin, AreDisjoint, AreMapsOf}
pub use Rattle.ldm_space.specs.Wanted.{placed}
pub use Rattle.ldm_space.specs.declared.placed.FreeMaps.{FreeMaps}
pub use Rattle.ldm_space.specs.declared.placed.Wanted.{Wanted}
pub use Rattle.ldm_vmdb.specs.Headers.{grown_to}
pub use Rattle.ldm_vmdb.specs.declared.header.Header.{Header}
pub use Rattle.ldm_words.specs.declared.command.Command.{Command}
pub use Rattle.ldm_words.specs.declared.command.NewLayout.{NewLayout}
pub use Rattle.ldm_words.specs.declared.command.Piece.{Piece}
