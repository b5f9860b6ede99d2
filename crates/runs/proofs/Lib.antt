pub mod Instants
pub mod Four
pub mod Lasting
pub mod Taking
pub mod Following
pub mod Checked
