pub mod Buses
pub mod Flown
pub mod Following
pub mod Links
pub mod Logs
pub mod Telling
pub mod laws
