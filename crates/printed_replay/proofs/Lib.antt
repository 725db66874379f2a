pub mod ReplayTexts
pub mod Words
pub mod Examples
