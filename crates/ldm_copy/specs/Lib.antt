pub mod Records
pub mod Copy
pub mod Answers
pub mod Errors
pub mod Steps
pub mod Alike
pub mod Images
