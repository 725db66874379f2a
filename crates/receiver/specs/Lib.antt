pub mod Receiver
