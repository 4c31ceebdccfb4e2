pub mod Answers
pub mod Uses
pub mod Standing
