pub mod Words
pub mod Does
pub mod Kept
