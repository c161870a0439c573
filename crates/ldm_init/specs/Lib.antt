pub mod Bytes
pub mod Beside
pub mod Faults
pub mod Images
pub mod Moments
pub mod New
pub mod NewGroup
