pub mod Blocks
pub mod Faults
pub mod Joins
pub mod Answers
pub mod Groups
pub mod Kept
pub mod Fed
