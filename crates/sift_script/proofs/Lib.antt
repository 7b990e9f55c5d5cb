pub mod Bounds
pub mod Lists
pub mod Slots
pub mod Steady
pub mod Views
pub mod lemmas
