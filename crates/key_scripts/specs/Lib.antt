pub mod Marks
pub mod Script
