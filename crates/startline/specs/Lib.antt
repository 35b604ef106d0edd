pub mod StartLine
pub mod Rules
