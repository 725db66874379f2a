pub mod Crossing
pub mod Limit
pub mod Pairs
pub mod Laws
