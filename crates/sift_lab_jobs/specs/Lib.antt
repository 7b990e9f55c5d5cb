pub mod Byz
pub mod Clocks
pub mod Shown
