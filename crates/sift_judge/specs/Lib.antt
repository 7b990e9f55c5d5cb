pub mod Clocks
pub mod Verdict
pub mod Laws
pub mod Turns
