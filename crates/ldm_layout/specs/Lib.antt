pub mod Parts
pub mod Grouped
pub mod Volumes
pub mod Answers
