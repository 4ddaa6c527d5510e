pub mod TryFolds
pub mod PlainSteps
pub mod DoubleSteps
pub mod IntegerRules
pub mod DoubleRules
pub mod OneLine
