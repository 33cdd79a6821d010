mod Examples
pub mod Walking
