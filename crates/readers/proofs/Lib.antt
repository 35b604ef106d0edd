pub mod Steps
pub mod Scanning
pub mod Fair
pub mod Spelled
pub mod Decimals
pub mod Cuts
pub mod Words
pub mod Positions
