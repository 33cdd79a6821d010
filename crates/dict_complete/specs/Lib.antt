pub mod FirstReadings
pub mod Joined
pub mod PrefixLaws
