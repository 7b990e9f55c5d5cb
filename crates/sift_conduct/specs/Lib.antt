pub mod Acts
pub mod Conduct
pub mod Frames
pub mod laws
