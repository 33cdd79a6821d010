pub mod Books
pub mod Lacking
pub mod Pairs
pub mod Rows
pub mod Walking
