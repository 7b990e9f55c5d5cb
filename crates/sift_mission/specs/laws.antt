-- What follows from the definitions, with its proofs: what the proofs of crates above may cite.
pub mod ByWords
pub mod Calls
pub mod Configs
pub mod Frames
pub mod Offsets
pub mod Silent
pub mod Tasks
pub mod Turning
