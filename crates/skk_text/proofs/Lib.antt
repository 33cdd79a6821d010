pub mod Characters
mod Examples
pub mod KeyFaults
pub mod KeyNames
pub mod KeyReading
pub mod KeySpelling
