pub mod LineReading
pub mod Marks
pub mod Numbers
pub mod Reading
mod ScriptExamples
pub mod Scripts
