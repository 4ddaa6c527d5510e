pub mod Table
pub mod Scan
pub mod Step
pub mod Theorems
