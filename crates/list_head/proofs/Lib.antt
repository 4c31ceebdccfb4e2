pub mod NumberLaws
pub mod HeadLaws
