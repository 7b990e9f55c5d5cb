pub mod Clock
pub mod Fault
pub mod Item
pub mod Reading
pub mod Storm
pub mod Table
pub mod laws
