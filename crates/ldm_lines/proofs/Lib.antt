pub mod LineLaws
pub mod LimitLaws
