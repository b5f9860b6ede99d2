pub mod Inverse
pub mod Broken
pub mod Ranged
pub mod Told
