pub mod Ceilings
pub mod Limits
pub mod Products
pub mod Shares
pub mod Steps
pub mod lemmas
