pub mod Adding
pub mod Draws
