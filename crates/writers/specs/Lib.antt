pub mod Decimal
pub mod SelfLength
pub mod Buffer
