pub mod BookNumbers
pub mod Commands
pub mod ExprWords
pub mod OptionCounts
pub mod OptionRows
pub mod OptionWalk
pub mod OptionsAsked
pub mod OptionsRead
pub mod ParsedNumbers
mod RangeExamples
pub mod SettingLists
pub mod Tables
mod WordExamples
pub mod WordTexts
