pub mod StateLaws
pub mod AnswerLaws
