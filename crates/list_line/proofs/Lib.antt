pub mod PassLaws
pub mod EitherLaws
