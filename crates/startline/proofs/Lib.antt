pub mod Said
pub mod Fronts
pub mod FirstWord
pub mod Judged
pub mod LastWord
