pub mod Shapes
pub mod Sound
pub mod ScanLaws
pub mod NameLaws
pub mod NumberLaws
pub mod SymbolLaws
pub mod PlaceLaws
