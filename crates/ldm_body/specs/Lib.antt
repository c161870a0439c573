pub mod Body
pub mod Table
pub mod Finding
pub mod Rewriting
