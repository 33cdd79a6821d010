pub mod Blocks
pub mod Lengths
pub mod LineLengths
pub mod Rows
