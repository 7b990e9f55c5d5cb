pub mod Answer
pub mod Ending
pub mod Laws
pub mod Report
