pub mod Pace
pub mod Widens
