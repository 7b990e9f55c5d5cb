-- What follows from the definitions, with its proofs: what the proofs of crates above may cite.
pub mod Both
pub mod Flown
