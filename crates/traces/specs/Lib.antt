pub mod Refusals
pub mod Traces
