pub mod Tasks
pub mod Scenario
