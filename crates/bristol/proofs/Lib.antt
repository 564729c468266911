pub mod CallLaws
pub mod FiledOne
