pub mod Numbers
pub mod Wrong
pub mod Text
pub mod Buses
