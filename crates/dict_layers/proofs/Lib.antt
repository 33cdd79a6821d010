pub mod BlockFirst
pub mod LayersAdded
