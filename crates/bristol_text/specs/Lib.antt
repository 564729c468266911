-- A Bristol Fashion text, from its bytes to the call on it.
pub mod Words
pub mod Lines
pub mod Told
pub mod Heard
pub mod Meaning
pub mod Renamed
pub mod Order
pub mod Call
pub mod Good
