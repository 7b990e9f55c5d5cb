pub mod Code
pub mod Correct
pub mod Length
pub mod Stop
pub mod Tasks
