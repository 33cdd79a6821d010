pub mod Faults
pub mod Listeners
pub mod Memory
pub mod Moved
pub mod Pieces
pub mod Shelves
pub mod Taken
pub mod Written
