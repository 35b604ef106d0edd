pub mod ForGood
pub mod SameAsReading
pub mod FirstBytes
pub mod AsFraming
pub mod Table
