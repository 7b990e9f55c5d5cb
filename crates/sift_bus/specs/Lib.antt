pub mod Boarding
pub mod Turns
