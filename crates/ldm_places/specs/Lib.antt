pub mod Places
pub mod Extents
pub mod Layouts
pub mod Columns
pub mod Plans
