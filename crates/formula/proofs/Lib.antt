pub mod Walks
pub mod Through
pub mod Back
pub mod Front
pub mod Unique
pub mod Scanned
pub mod Told
pub mod Onward
