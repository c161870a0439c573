pub mod LayLaws
pub mod PatchedLaws
pub mod ViewLaws
pub mod CoverLaws
