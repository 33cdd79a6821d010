mod Doubts
mod Examples
mod Keeping
mod Readings
mod Seats
mod Standing
mod Stepping
mod Taking
