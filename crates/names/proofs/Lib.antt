pub mod Names
pub mod Masks
pub mod Sets
pub mod Marks
pub mod Theorems
