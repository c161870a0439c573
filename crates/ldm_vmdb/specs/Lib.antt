pub mod Sectors
pub mod Headers
pub mod Parts
