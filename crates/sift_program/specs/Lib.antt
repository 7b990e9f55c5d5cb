pub mod Ideal
pub mod Program
pub mod laws
