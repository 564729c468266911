pub mod LineLaws
pub mod TurnLaws
