pub use Rattle.ldm_bytes.specs.Places
pub mod Seen
pub mod Moves
pub mod Failed
pub mod Acts
pub mod Images
