pub mod Tables
pub mod Settings
pub mod Made
pub mod Trials
