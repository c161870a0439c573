pub mod PastWords
pub mod PastAnswer
pub mod PastTalk
