pub mod CheckLaws
pub mod FrontLaws
