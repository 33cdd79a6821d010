pub mod Doubts
pub mod Keeping
pub mod Seats
pub mod Stands
pub mod Steps
pub mod Worlds
