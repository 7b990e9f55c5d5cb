pub mod BytesIn
pub mod BytesOut
pub mod Flow
pub mod Heard
pub mod Reading
pub mod Sure
pub mod Writing
