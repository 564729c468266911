pub mod BitsLaws
pub mod ChainLaws
pub mod JobLaws
