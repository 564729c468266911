pub mod ReaderLaws
pub mod CheckedLaws
pub mod SiteLaws
pub mod LoopLaws
