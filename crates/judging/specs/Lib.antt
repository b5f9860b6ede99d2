pub mod Truth
pub mod Judging
pub mod Orders
pub mod Shown
