pub mod TestLaws
pub mod EnterLaws
pub mod ReadingLaws
