pub mod Conversations
pub mod FirstLaws
pub mod Firsts
pub mod TypedLines
pub mod Typings
