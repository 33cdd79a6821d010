pub mod FilePlaces
pub mod Files
pub mod Marks
pub mod PlacesOfParts
pub mod PlainLines
pub mod Scanning
pub mod WalkLaws
pub mod Walked
