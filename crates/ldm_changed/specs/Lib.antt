pub mod Plan
pub mod Change
pub mod Nexts
