pub mod Earliest
pub mod Plans
pub mod Refused
pub mod Laws
pub mod Drafts
pub mod Sizes
pub mod Text
