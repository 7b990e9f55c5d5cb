-- What stands at a place, the first of it, and the answer to a text.
pub mod Answering
pub mod Fine
pub mod Kinds
pub mod Offences
pub mod OneRefusal
pub mod Refusing
pub mod Standing
pub mod Stops
pub mod Taking
