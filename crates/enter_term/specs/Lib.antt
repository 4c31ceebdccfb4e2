-- What the readers' loops keep.
pub mod Onward
