pub mod Free
pub mod Gaps
pub mod Wanted
pub mod Placed
