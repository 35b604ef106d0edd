pub mod Tests
pub mod Scans
pub mod Membership
pub mod Rising
pub mod Dealing
pub mod Masks
