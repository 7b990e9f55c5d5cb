-- A text that is parsed is the text of a sound task.
pub mod Block
pub mod Force
pub mod Names
pub mod Number
pub mod Place
pub mod Prim
pub mod Statement
pub mod Term
pub mod TermRules
pub mod Values
