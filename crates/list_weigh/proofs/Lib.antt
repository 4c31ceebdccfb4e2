pub mod Sums
pub mod Bounds
pub mod Walk
pub mod LineLaws
