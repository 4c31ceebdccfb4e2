pub mod Lines
pub mod PieceBytes
pub mod OverLaws
pub mod RewriteLaws
pub mod CarryLaws
