pub mod Walking
pub mod Shapes
