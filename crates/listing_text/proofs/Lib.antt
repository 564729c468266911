pub mod DigitLaws
pub mod TextLaws
