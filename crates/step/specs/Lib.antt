pub mod Speed
pub mod Reason
pub mod Brake
pub mod Step
