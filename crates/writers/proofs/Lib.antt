pub mod Digits
pub mod SelfLength
pub mod Put
pub mod Theorems
