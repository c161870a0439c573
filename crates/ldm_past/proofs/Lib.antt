pub mod TextLaws
pub mod RunLaws
pub mod PastLaws
pub mod TalkLaws
