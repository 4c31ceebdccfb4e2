pub mod Lawful
pub mod Marks
