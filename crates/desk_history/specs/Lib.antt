pub mod Keeping
pub mod Seats
pub mod Steps
pub mod Views
