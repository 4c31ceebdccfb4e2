pub mod Tight
pub mod ExamineLaws
