pub mod Given
pub mod Order
pub mod Strays
pub mod Flown
pub mod Told
pub mod laws
