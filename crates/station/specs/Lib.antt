pub mod Listing
pub mod Surveyed
pub mod Shown
