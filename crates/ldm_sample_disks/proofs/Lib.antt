pub mod DiskLaws
