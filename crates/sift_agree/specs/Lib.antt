pub mod Agreement
pub mod laws
