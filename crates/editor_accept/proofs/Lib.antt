pub mod AcceptLaws
pub mod AnswerLaws
