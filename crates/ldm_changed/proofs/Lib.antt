pub mod PlanLaws
pub mod NextLaws
pub mod FillLaws
