pub mod Ascii
pub mod Examples
pub mod Groups
pub mod Lookups
pub mod Parts
