pub mod Marking
pub mod Soundness
