pub mod Ages
pub mod FileRows
pub mod Groups
pub mod Index
pub mod Kept
pub mod Plans
pub mod Records
pub mod ReplyLaws
