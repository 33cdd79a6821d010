pub mod Connections
pub mod Ends
pub mod Services
pub mod Stages
pub mod Turns
pub mod Visits
pub mod Works
