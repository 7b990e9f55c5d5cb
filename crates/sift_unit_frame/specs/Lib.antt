pub mod Carving
pub mod Conditions
pub mod FrameWords
pub mod Memories
pub mod Memory
pub mod Tidings
pub mod laws
