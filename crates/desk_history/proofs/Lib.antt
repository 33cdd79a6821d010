mod Counts
mod Cuts
mod Entering
mod Examples
mod Joining
mod Looking
