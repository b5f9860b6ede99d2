pub mod Formulas
pub mod Rules
pub mod Reader
pub mod Heights
pub mod Listing
