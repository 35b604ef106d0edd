pub mod Whose
pub mod Steps
