pub mod Seats
pub mod Storms
pub mod laws
