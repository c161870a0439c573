pub mod Below
pub mod BlockLaws
pub mod JoinLaws
pub mod KeptLaws
