pub mod Runs
pub mod Folding
pub mod Ending
pub mod ByRuns
pub mod Lining
