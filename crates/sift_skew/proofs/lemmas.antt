-- What the proofs of crates above may cite.
pub mod Changes
pub mod Keeps
