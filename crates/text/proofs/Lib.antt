pub mod Lengths
pub mod Digits
