pub mod Message
pub mod StartLines
pub mod StartGrammar
pub mod Folds
pub mod Fields
pub mod Known
pub mod Reading
