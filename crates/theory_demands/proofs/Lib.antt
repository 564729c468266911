pub mod PublicLaws
pub mod Demands
pub mod Shelf
pub mod Marked
pub mod MarkedTexts
