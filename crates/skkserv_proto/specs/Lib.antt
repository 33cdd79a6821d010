pub mod Feeding
pub mod Fronts
pub mod Replies
pub mod Requests
