pub mod LineLaws
pub mod VolumeLaws
pub mod GroupLaws
