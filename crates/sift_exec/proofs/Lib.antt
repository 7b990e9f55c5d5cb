pub mod Accusing
pub mod lemmas
