pub mod Lines
pub mod Ways
pub mod Looking
pub mod Theorems
