pub mod Apart
pub mod Executors
pub mod Plain
pub mod Words
pub mod lemmas
