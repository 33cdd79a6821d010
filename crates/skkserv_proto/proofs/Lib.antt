pub mod Feeds
pub mod Listing
mod ReplyExamples
mod RequestExamples
pub mod Texts
pub mod Tokens
