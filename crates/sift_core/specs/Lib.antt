pub mod Courses
pub mod Ended
pub mod Landing
pub mod Machines
pub mod Steps
pub mod Storms
pub mod Turns
