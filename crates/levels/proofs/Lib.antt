pub mod Singles
pub mod Levels
