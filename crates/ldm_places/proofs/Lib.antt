pub mod LeastLaws
pub mod PlaceLaws
pub mod SpotLaws
