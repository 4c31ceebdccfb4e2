pub mod Room
pub mod Rest
