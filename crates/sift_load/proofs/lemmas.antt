-- What the proofs of crates above may cite.
pub mod Loading
