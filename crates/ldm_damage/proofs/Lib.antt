pub mod LookLaws
pub mod PatchingLaws
pub mod DamageLaws
pub mod TryLaws
