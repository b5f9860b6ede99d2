pub mod Stretching
