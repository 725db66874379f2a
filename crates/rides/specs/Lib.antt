pub mod Recording
pub mod Ride
pub mod Why
pub mod Replay
