-- What the proofs of crates above may cite.
pub mod Clocks
pub mod RulesDecided
pub mod Sizes
pub mod Unshed
