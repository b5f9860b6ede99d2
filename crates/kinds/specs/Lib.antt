pub mod Time
pub mod Slots
pub mod Steps
pub mod Fours
pub mod Texts
