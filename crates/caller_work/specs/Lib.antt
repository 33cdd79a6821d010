pub mod Closings
pub mod DiskLaws
pub mod Disks
