mod InputExamples
pub mod Items
pub mod Rounds
pub mod Rows
pub mod States
