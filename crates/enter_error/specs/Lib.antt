pub mod Keeps
pub mod ErrorLaws
