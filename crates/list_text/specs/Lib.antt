pub mod Texts
pub mod InTurn
