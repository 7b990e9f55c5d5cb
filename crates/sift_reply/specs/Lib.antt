pub mod Reply
pub mod Begun
pub mod Duty
pub mod Promise
pub mod Laws
