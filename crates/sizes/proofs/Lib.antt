pub mod Listing
pub mod Messages
pub mod Events
