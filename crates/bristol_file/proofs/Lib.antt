pub mod FileLaws
pub mod OwnerLaws
pub mod WholeFile
