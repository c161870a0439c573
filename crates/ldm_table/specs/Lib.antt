pub mod Names
pub mod Targets
pub mod Tables
pub mod Runs
pub mod Spelling
pub mod Faults
pub mod Groups
pub mod Laws
