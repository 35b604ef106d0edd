pub mod Scanning
pub mod Numerals
