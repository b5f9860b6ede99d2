pub mod Systems
pub mod Reading
pub mod Cuts
pub mod Faults
pub mod Promise
pub mod Questions
pub mod Parts
pub mod Roles
