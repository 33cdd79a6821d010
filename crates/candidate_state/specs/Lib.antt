pub mod Picking
pub mod Shown
