pub mod Batches
pub mod Entries
pub mod Groups
pub mod Imports
pub mod Learnings
pub mod Levels
pub mod Pieces
