pub mod Answers
pub mod ExamineLaws
pub mod Tight
