pub mod Beacons
