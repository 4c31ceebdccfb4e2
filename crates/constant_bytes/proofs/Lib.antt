pub mod Quotients
pub mod Values
pub mod TenDigits
pub mod Places
pub mod Outcomes
