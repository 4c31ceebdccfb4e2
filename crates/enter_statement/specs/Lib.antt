pub mod Ends
pub mod EndLaws
pub mod Stacks
pub mod Rows
pub mod Moves
