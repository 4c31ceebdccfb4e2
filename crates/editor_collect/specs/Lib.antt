pub mod Answers
pub mod Tight
pub mod Marks
pub mod Lines
pub mod Carries
pub mod Readied
