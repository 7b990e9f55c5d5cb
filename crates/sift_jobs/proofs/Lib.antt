pub mod Alike
pub mod Existing
pub mod Planned
pub mod Reported
pub mod StatedFault
pub mod Statuses
