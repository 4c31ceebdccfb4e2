pub mod Answers
pub mod WordLaws
pub mod TableLaws
pub mod Lies
pub mod Tight
