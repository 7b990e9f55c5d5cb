pub mod Logs
pub mod Outvoting
pub mod Telling
pub mod lemmas
