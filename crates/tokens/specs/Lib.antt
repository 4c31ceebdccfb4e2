pub mod Tables
pub mod Parts
pub mod Same
pub mod Words
pub mod Spellings
