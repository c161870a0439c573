pub mod HeaderLaws
pub mod KeptLaws
