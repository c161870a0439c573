pub mod Gathers
pub mod Labels
pub mod Copies
pub mod Editing
pub mod Opening
pub mod Facts
pub mod Answers
pub mod Steps
