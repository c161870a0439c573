pub mod Sample
pub mod Script
