pub mod Bits
pub mod Texts
pub mod Packed
