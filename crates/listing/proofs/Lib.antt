pub mod CleanLaws
pub mod ToldLaws
pub mod PartLaws
pub mod JobLaws
pub mod ListingOne
