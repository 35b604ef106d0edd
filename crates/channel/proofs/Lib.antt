mod Opening
pub mod Parts
