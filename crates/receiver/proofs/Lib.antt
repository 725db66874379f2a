pub mod Receivers
pub mod SixBytes
pub mod Head
pub mod Steps
pub mod Determined
