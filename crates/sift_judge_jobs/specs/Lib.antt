pub mod Divided
pub mod Lines
pub mod Judge
pub mod Judged
