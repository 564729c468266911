pub mod Mirror
pub mod Pass
