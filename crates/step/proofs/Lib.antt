pub mod Lowest
pub mod Least
pub mod Reasons
pub mod Paired
