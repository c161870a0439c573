pub mod Made
pub mod Volumes
