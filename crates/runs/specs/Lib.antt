pub mod Runs
pub mod Instants
pub mod Steps
pub mod Checks
pub mod Courses
pub mod Sides
