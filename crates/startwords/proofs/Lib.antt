pub mod Positions
pub mod Ids
