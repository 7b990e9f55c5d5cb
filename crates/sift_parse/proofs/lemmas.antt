-- What the proofs of crates above may cite.
pub mod Answered
pub mod OneAnswer
pub mod Sound
