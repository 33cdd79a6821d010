pub mod Finishes
pub mod Page
pub mod PageLaws
pub mod Status
