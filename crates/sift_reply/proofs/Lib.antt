pub mod Inputs
pub mod Certain
pub mod Own
pub mod Explained
