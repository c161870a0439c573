pub mod BodyLaws
pub mod RewriteLaws
pub mod FindLaws
