pub mod Kept
pub mod Alike
pub mod Turning
pub mod Healing
pub mod Bodies
pub mod Sessions
pub mod Settling
