pub mod SortLaws
pub mod VolumeLaws
pub mod HeldLaws
