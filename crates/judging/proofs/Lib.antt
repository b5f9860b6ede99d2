pub mod Bits
pub mod Judged
pub mod Depends
pub mod Told
pub mod Onward
pub mod Apart
