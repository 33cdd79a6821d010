pub mod Apart
pub mod Callers
pub mod Hiring
pub mod Own
pub mod OwnSessions
pub mod PagesWoven
pub mod Places
mod PlayingExamples
pub mod Tasks
pub mod Typists
pub mod Weaving
mod WovenExamples
