pub mod Room
pub mod Ranges
pub mod Told
pub mod Words
