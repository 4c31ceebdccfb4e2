pub mod Writing
pub mod Turns
