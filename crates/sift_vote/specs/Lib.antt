pub mod Majority
pub mod laws
