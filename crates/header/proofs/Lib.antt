pub mod Lengths
pub mod Values
pub mod Four
pub mod Places
pub mod Gathering
pub mod Stepping
pub mod Onward
pub mod Theorems
