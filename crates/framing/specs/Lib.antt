pub mod Framing
pub mod Grammar
pub mod Steps
