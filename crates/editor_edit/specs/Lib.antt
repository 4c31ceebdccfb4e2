pub mod States
pub mod Sound
pub mod Tight
pub mod Refusals
