pub mod Loaded
pub mod lemmas
