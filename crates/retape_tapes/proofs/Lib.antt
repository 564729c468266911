pub mod NewLaws
pub mod PartLaws
