pub mod ReadBack
pub mod Opens
pub mod Whole
pub mod Asked
