pub mod Conviction
pub mod laws
