mod Examples
pub mod FileWalk
pub mod InOrder
pub mod Marks
pub mod Places
pub mod PlainLines
pub mod PlainRows
pub mod Scanned
pub mod Walking
