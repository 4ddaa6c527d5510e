pub mod Bits
pub mod Steps
pub mod Rows
pub mod Verdict
pub mod Turns
pub mod Chars
