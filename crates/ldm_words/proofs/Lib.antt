pub mod NumberLaws
pub mod SpelledLaws
pub mod JobLaws
pub mod NameLaws
pub mod CommandLaws
pub mod EqualsLaws
pub mod LimitLaws
pub mod NewGroupLaws
