pub mod Delays
pub mod Trials
pub mod Timed
pub mod Laws
