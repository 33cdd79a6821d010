pub mod Begins
pub mod CutLines
pub mod Differing
mod Examples
mod FileExamples
pub mod FileRules
pub mod Fits
pub mod Found
pub mod ReadLines
pub mod Rooms
pub mod Rows
pub mod Step
pub mod Tries
