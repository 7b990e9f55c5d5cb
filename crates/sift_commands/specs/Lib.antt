pub mod Command
pub mod Order
pub mod Headline
