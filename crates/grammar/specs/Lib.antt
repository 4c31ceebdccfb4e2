pub mod Stack
pub mod Tables
pub mod Rows
pub mod Joining
