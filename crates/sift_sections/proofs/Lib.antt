pub mod ClockTests
pub mod Faulting
pub mod Figures
pub mod KnownStarts
pub mod TableReading
pub mod Ticks
pub mod lemmas
