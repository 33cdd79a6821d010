mod Examples
pub mod Indexes
pub mod Sorting
