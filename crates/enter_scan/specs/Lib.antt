pub mod Token
pub mod Kinds
pub mod Sees
