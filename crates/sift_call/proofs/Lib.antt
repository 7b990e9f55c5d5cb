pub mod Filling
pub mod Lines
pub mod Sure
pub mod Statuses
pub mod Same
