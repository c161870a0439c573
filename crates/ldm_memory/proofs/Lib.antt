pub mod CallLaws
pub mod DoneLaws
pub mod HeldLaws
pub mod LeftLaws
