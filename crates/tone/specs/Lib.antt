pub mod Tones
pub mod Facts
