mod Lines
mod Faces
pub mod Theorems
