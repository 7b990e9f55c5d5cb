mod Ascii
mod Catches
mod LineFeeds
mod OneSheet
mod Versions
pub mod Above
pub mod Ascending
pub mod Fields
pub mod Joined
pub mod LineForms
pub mod Numerals
pub mod Reading
pub mod Remaining
pub mod Results
pub mod Sets
