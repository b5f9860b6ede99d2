pub mod Reading
pub mod Promise
pub mod Measures
