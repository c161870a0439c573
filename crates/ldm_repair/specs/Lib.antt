pub mod Closing
pub mod Repairing
pub mod RepairWords
pub mod Turns
pub mod Stages
