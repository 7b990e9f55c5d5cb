pub mod Divisions
pub mod Judged
pub mod OneReply
pub mod Places
pub mod Readings
pub mod Statuses
pub mod Steps
