pub mod Rescued
pub mod Losses
pub mod Told
pub mod Rescue
pub mod RescueWords
