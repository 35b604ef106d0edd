pub mod Demands
pub mod FromC
