pub mod LinesLaws
pub mod FileLaws
