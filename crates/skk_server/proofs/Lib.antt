pub mod ConnectionExamples
pub mod Fronts
pub mod Joins
pub mod Requests
pub mod Results
mod ServiceExamples
pub mod Stages
pub mod Standing
pub mod Turns
pub mod Typists
pub mod Visits
