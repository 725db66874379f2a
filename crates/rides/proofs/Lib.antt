pub mod Recordings
pub mod Runs
pub mod Replays
pub mod Refusals
pub mod Determined
pub mod Whys
