pub mod Numbers
pub mod Walking
pub mod Fronts
pub mod Files
pub mod Unfinished
pub mod Theorems
