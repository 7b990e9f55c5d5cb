pub mod Config
pub mod laws
