pub mod Answers
pub mod Steps
pub mod Gives
pub mod Whole
pub mod Seen
pub mod IdsViews
pub mod FieldViews
pub mod Opened
