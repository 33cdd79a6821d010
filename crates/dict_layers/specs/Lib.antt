pub mod Blocks
pub mod Merging
pub mod SystemFiles
