pub mod Table
pub mod Frames
pub mod Laid
pub mod StackLaws
pub mod Places
pub mod Acting
pub mod Common
