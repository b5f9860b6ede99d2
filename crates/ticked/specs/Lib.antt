pub mod Ticks
pub mod Texts
pub mod Trials
pub mod Laws
