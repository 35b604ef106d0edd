pub mod StartLine
pub mod Folds
pub mod Gapless
pub mod Trimming
pub mod Values
pub mod Rows
pub mod Says
pub mod Parts
pub mod Places
pub mod Alike
pub mod Refusals
pub mod Worded
mod Joined
pub mod Theorems
