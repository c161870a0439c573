pub mod RangeLaws
pub mod RunLaws
pub mod CountLaws
pub mod ByteLaws
pub mod ReadLaws
