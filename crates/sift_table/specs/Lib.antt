pub mod Laws
pub mod Rules
pub mod Schedule
pub mod Timing
