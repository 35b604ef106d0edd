pub mod Face
pub mod Steps
