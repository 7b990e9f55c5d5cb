-- What follows from the definitions, with its proofs: what the proofs of crates above may cite.
pub mod Decided
pub mod KnownEntries
pub mod Named
pub mod Values
