pub mod NewLaws
pub mod MomentLaws
pub mod ReadyLaws
pub mod GroupLaws
pub mod InitLaws
