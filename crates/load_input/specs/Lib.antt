pub mod Dictionary
pub mod Draws
pub mod Lines
