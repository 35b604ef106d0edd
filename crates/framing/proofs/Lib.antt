pub mod Written
pub mod Openings
pub mod Frames
pub mod Refusals
pub mod Stepping
pub mod Theorems
