pub mod Link
pub mod Loops
pub mod Places
