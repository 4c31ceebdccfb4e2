pub mod PieceRead
