pub mod Due
pub mod FitSlots
pub mod FitTables
pub mod FitTasks
pub mod Fitting
pub mod Flying
pub mod Held
pub mod Lent
pub mod Links
pub mod Meanings
pub mod Positions
pub mod Rows
pub mod Sayers
pub mod Tasks
mod Trees
