pub mod Agreement
pub mod Standing
pub mod TickedStanding
pub mod Theorems
pub mod Through
