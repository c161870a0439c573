pub mod Order
pub mod Database
pub mod Looks
pub mod Room
pub mod Partitions
pub mod Hits
pub mod Index
