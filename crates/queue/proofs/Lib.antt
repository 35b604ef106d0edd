pub mod Queues
pub mod Turns
pub mod Masks
mod Shifts
