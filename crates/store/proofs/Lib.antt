pub mod Programs
pub mod Search
pub mod Walk
