pub mod Front
pub mod Plain
pub mod Integer
pub mod Double
pub mod Theorems
