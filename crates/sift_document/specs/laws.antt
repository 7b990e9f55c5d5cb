-- What follows from the definitions, with its proofs: what the proofs of crates above may cite.
pub mod Arrays
pub mod EntryTests
pub mod Numbers
pub mod OneBroken
pub mod Order
pub mod Places
pub mod ReadEntries
pub mod Testing
