pub mod Copies
pub mod Hearing
pub mod Stops
