pub mod Answers
pub mod Answered
