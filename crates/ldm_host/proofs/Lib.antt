pub mod Relations
pub mod ChangeLaws
