pub mod Classes
pub mod Search
pub mod Symbols
pub mod Cuts
pub mod Keys
pub mod FitTokens
pub mod First
