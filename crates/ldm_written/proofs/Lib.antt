pub mod WriteLaws
pub mod HoldLaws
pub mod HoldEdits
pub mod AnswerLaws
pub mod MadeLaws
pub mod ReadBackLaws
pub mod SpellLaws
