pub mod Writing
pub mod ReadBack
pub mod Trees
pub mod RowsBack
