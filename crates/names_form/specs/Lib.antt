pub mod Tables
pub mod Places
pub mod Shapes
pub mod Names
pub mod Answers
