pub mod Looked
pub mod Mending
pub mod Trying
pub mod Passing
pub mod Views
pub mod Laws
