pub mod Brake
pub mod Beside
pub mod State
pub mod Clock
pub mod Ranges
