pub mod Heights
pub mod Resets
