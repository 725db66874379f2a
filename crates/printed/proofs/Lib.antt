pub mod Texts
pub mod Room
pub mod Silence
pub mod End
pub mod Lines
pub mod Computes
pub mod Examples
