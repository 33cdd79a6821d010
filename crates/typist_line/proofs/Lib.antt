pub mod Fronts
pub mod KeyTexts
pub mod Lines
pub mod Pressing
pub mod Results
pub mod Standing
pub mod Talks
mod TypistExamples
