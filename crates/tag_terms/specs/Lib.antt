pub mod Lent
pub mod Tight
pub mod Counted
