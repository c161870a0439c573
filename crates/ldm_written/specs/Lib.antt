pub mod Written
pub mod Answers
pub mod Free
pub mod Headers
pub mod Made
pub mod Spelled
