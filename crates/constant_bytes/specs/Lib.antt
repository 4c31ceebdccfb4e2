pub mod Numerals
pub mod Laws
