pub mod Limits
pub mod Figures
pub mod Keeping
pub mod Leading
pub mod laws
