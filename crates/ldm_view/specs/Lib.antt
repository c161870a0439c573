pub mod Patches
pub mod ViewSeen
pub mod Start
pub mod PatchLaws
pub mod Laws
