pub mod Tight
pub mod ErrorTexts
