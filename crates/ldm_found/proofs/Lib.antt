pub mod CopyLaws
pub mod DiskLaws
pub mod GroupLaws
pub mod FoundLaws
