pub mod Shares
pub mod Renumbered
