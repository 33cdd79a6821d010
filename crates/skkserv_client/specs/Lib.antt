pub mod Gathering
pub mod Hearing
pub mod Questions
pub mod Replies
