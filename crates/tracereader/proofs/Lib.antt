mod Indexing
pub mod Judging
