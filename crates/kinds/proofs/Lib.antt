pub mod SameTexts
pub mod Refusals
pub mod Anys
