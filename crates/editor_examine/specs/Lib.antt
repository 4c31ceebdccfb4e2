pub mod Verdicts
pub mod Tight
