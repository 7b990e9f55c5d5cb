pub mod Document
pub mod Rules
pub mod Testing
pub mod laws
