pub mod PartLaws
pub mod NextLaws
pub mod NumberLaws
