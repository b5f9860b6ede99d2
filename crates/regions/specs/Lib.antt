pub mod Regions
pub mod Clocks
pub mod Gaps
pub mod Sameness
pub mod Slots
pub mod Texts
pub mod Promise
pub mod Laws
