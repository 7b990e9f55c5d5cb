pub mod Rogues
pub mod Storms
pub mod DrawnStorms
