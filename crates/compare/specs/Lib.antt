pub mod Answering
pub mod Hex
pub mod Lines
pub mod Names
pub mod Shown
