pub mod Written
pub mod IdList
pub mod Answers
pub mod Writable
