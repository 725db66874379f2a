pub mod Windows
pub mod MainControl
pub mod Stop
