pub mod Places
pub mod Reading
pub mod ReadingLaws
pub mod RefusedLaws
