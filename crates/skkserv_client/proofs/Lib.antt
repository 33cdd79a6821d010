pub mod FoundTold
pub mod Gathered
pub mod Heard
pub mod Lines
pub mod Listed
pub mod ReplyExamples
pub mod Results
pub mod Returns
