pub mod Walking
pub mod Bounds
mod Apart
pub mod Theorems
