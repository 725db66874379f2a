pub mod Decimal
pub mod Hex
pub mod Typing
pub mod Words
