pub mod Pieces
pub mod Extents
pub mod Live
pub mod Lookup
pub mod Laid
pub mod Changes
