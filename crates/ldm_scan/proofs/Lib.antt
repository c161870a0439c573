pub mod LoneLaws
pub mod FailLaws
pub mod FindingLaws
pub mod RunLaws
