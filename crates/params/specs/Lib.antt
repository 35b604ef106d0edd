pub mod Doing
pub mod Steps
