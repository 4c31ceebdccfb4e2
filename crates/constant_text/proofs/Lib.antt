pub mod TextDigits
pub mod TextShapes
pub mod TextWrites
pub mod Rights
pub mod Sixes
