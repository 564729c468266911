pub mod InputsSeen
pub mod InsLaws
