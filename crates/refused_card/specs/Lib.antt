pub mod Names
pub mod Refused
pub mod Told
