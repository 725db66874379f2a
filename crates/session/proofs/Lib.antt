pub mod Numbers
pub mod Runs
pub mod Asking
pub mod Paper
pub mod Determined
pub mod Opening
