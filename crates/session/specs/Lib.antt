pub mod Types
pub mod Session
pub mod Why
pub mod Runs
