mod AskExamples
pub mod Asks
pub mod Begun
pub mod BookLines
mod CauseExamples
mod Causes
mod CheckExamples
pub mod Dictionaries
mod Examples
mod ExprExamples
mod Imports
pub mod Exprs
mod LoadExamples
pub mod LinesWork
pub mod LoadInput
pub mod Loads
pub mod PrintedChecks
mod RelationExamples
mod RunExamples
mod ServeExamples
pub mod Visits
pub mod RunFiles
pub mod Runs
mod ShareExamples
pub mod SharedLoads
pub mod Shares
pub mod Typed
pub mod Weaves
pub mod PrintedTexts
mod Disks
mod Served
