pub mod Answers
pub mod Mirror
pub mod Checked
pub mod Loop
