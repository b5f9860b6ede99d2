pub mod Equal
mod Writing
mod Mixing
