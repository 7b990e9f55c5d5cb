-- What follows from the definitions, with its proofs: what the proofs of crates above may cite.
pub mod Counts
pub mod Draws
pub mod Numbers
pub mod Others
pub mod Ranges
pub mod ReadBack
pub mod Requirements
pub mod Sets
pub mod Shapes
pub mod Tests
