-- What the proofs of crates above may cite.
pub mod Earlier
pub mod Frames
pub mod Unique
