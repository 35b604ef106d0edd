pub mod Saving
pub mod Tidying
pub mod Pushing
pub mod Theorems
