pub mod Walking
pub mod Values
pub mod Numbers
pub mod Rooms
pub mod Stands
