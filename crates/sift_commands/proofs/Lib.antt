pub mod Headline
pub mod Stated
pub mod Statuses
pub mod Standing
