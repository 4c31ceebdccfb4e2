pub mod Marks
pub mod Walks
pub mod MarkLaws
