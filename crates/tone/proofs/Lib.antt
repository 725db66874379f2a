pub mod Laws
pub mod Apart
pub mod FirstFault
pub mod Readings
pub mod OldBytes
pub mod Determined
pub mod Examples
