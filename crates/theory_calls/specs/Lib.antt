-- Document 01, from the file's bytes to whole calls.
pub mod File
pub mod Plain
pub mod Family
pub mod Answer
pub mod Checks
pub mod Refusal
pub mod Listing
pub mod Call
pub mod Calls
pub mod AtBits
pub mod Statements
