pub mod Moves
pub mod MoveLaws
