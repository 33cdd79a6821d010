pub mod OwnBooksChanged
pub mod Parts
pub mod SameDialogs
