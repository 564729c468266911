pub mod Answers
pub mod Mirror
pub mod Opened
