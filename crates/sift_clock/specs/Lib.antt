pub mod Distance
pub mod Correction
pub mod laws
