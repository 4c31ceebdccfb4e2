pub mod Answers
pub mod Worked
pub mod Kinds
pub mod Following
pub mod Coverage
