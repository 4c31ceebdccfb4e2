pub mod Walks
pub mod Answers
pub mod Places
pub mod Pairs
pub mod Rising
