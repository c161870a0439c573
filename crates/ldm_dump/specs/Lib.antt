pub mod Sources
pub mod Bytes
pub mod Runs
pub mod Laws
pub mod Redundant
