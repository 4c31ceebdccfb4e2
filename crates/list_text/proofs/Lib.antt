pub mod TextLaws
pub mod HeadLaws
