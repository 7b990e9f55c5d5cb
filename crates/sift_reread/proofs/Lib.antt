pub mod Certain
pub mod Explained
pub mod FirstLine
pub mod Lines
pub mod Stops
pub mod Texts
