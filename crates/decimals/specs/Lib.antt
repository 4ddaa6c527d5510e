pub mod Whole
pub mod Floats
pub mod Decimal
pub mod Rounding
pub mod Theorems
