pub mod Ascending
pub mod Shifts
