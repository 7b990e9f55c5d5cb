pub mod DrawnText
pub mod OneReply
pub mod Shown
pub mod Statuses
