pub mod Effects
pub mod Runs
pub mod Theorems
