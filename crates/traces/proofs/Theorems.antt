pub mod ReadsExactly
pub mod MessageN
pub mod Recording
pub mod GivenBack
pub mod Examples
