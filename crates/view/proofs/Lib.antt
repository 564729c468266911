pub mod ViewLaws
pub mod ViewCall
