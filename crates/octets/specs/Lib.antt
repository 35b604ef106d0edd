pub mod Octets
pub mod Steps
