pub mod Findings
pub mod LoneSeen
pub mod Start
pub mod Laws
