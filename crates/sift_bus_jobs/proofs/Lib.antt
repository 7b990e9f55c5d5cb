pub mod Counted
pub mod Texts
pub mod Told
pub mod Coming
pub mod OneReply
