pub mod TestLaws
pub mod JobLaws
pub mod SeatLaws
