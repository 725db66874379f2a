pub mod WhyTexts
pub mod Room
pub mod Silence
