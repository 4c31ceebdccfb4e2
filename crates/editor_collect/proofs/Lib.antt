pub mod MarkLaws
pub mod Collects
