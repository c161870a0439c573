pub mod MadeLaws
pub mod PartWalk
pub mod CopyWalk
