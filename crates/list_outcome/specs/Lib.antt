pub mod Outcomes
pub mod AnswerLaws
pub mod Tight
