-- Lexemes of a text: the longest that fits, one way to read them, and what is kept of numbers.
pub mod Digits
pub mod Ends
pub mod Front
pub mod Fronts
pub mod Gaps
pub mod Kept
pub mod Longest
pub mod OneLexeme
pub mod OneLexing
pub mod Words
