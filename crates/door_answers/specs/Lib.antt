pub mod Told
pub mod Sizes
pub mod Mirror
