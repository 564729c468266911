pub mod Public
pub mod Shelf
pub mod Marked
pub mod MarkedTexts
